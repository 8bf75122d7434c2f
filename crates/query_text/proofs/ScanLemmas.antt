-- A text that is scanned byte by byte.
use Rattle.std.proofs.Common.{◌≡◌, ◌≢◌, ℕ, ◌+◌, ◌<◌, ◌≤◌, ◌⊎◌, inl, inr, Bool, true, false, List, [], ◌∷◌, ◌++◌, length, get_or, take, drop, Some, refl, sym, ap, ◌∙◌, subst, arith, append_assoc, append-nil, IsUtf8, ne_eqb, length-drop}
use Rattle.std.specs.Prelude.{not, ◌||◌}
use Rattle.std.proofs.lemmas.List.{drop_more, take_more}
use Rattle.dobj_field.proofs.Utf8.{drop_ascii, cut_at_ascii}
use Rattle.query_text.specs.declared.scanning.Within.{Within}
use Rattle.query_text.specs.declared.scanning.Within.TheVariants.{Word, Quotes}
use Rattle.query_text.specs.Spelling.{ended, taking, unescaped}
use Rattle.query_text.specs.Reading.{ends_of, goes_on}
use Rattle.query_text.proofs.CutLemmas.{small_by, small_either, white_small}
use Rattle.query_text.proofs.TextLemmas.{taking_on, spells_on}

-- the bytes before this place spell the text, and none of them ends it
pub record ScanTo (within : Within) (bytes : List ℕ) (at : ℕ) (text : List ℕ) (takes : Bool) : Type 0 where
  pub fits : at ≤ length bytes
  pub text_is : text ≡ unescaped false (take at bytes)
  pub flag : taking (ends_of within) false (take at bytes) ≡ Some takes
  pub utf8 : IsUtf8 (text ++ drop at bytes)

pub scan_start : (within : Within) (bytes : List ℕ) → IsUtf8 bytes → ScanTo within bytes 0 [] false
scan_start within bytes text = record { fits = omega arith; text_is = refl; flag = refl; utf8 = text }

one_byte : (ends : ℕ → Bool) (takes : Bool) (x : ℕ) → (takes ≡ true) ⊎ ((x ≢ 92) × (ends x ≡ false))
    → (taking ends takes (x ∷ []) ≡ Some false) × (unescaped takes (x ∷ []) ≡ x ∷ [])
one_byte ends true x said = (refl, refl)
one_byte ends false x (inl said) = cc
one_byte ends false x (inr (plain, on)) = (rw (ne_eqb x 92 plain, on) refl, rw (ne_eqb x 92 plain) refl)

-- one more byte of the text
pub scan_byte : (within : Within) (bytes : List ℕ) (at : ℕ) (text : List ℕ) (takes : Bool)
    → ScanTo within bytes at text takes → at < length bytes
    → (takes ≡ true) ⊎ ((get_or bytes at 0 ≢ 92) × (ends_of within (get_or bytes at 0) ≡ false))
    → ScanTo within bytes (at + 1) (text ++ get_or bytes at 0 ∷ []) false
scan_byte within bytes at text takes s inside said =
    let x = get_or bytes at 0 in
    let more : take (at + 1) bytes ≡ take at bytes ++ x ∷ [] = take_more bytes at 0 inside in
    let one = one_byte (ends_of within) takes x said in
    record {
      fits = omega arith;
      text_is = ap (λ t. t ++ x ∷ []) s.text_is ∙ (ap (λ t. unescaped false (take at bytes) ++ t) (sym one.1)
          ∙ (sym (spells_on (ends_of within) false (take at bytes) (x ∷ []) takes s.flag)
          ∙ ap (unescaped false) (sym more)));
      flag = ap (taking (ends_of within) false) more
          ∙ (taking_on (ends_of within) false (take at bytes) (x ∷ []) takes s.flag ∙ one.0);
      utf8 = subst IsUtf8 (ap (λ d. text ++ d) (drop_more bytes at 0 inside)
          ∙ sym (append_assoc text (x ∷ []) (drop (at + 1) bytes))) s.utf8;
    }

-- a `\`
pub scan_backslash : (within : Within) (bytes : List ℕ) (at : ℕ) (text : List ℕ) (takes : Bool) → takes ≡ false
    → ScanTo within bytes at text takes
    → at < length bytes → get_or bytes at 0 ≡ 92 → ScanTo within bytes (at + 1) text true
scan_backslash within bytes at text true off s inside back = cc
scan_backslash within bytes at text false off s inside back =
    let more : take (at + 1) bytes ≡ take at bytes ++ 92 ∷ [] = take_more bytes at 0 inside
    ∙ ap (λ x. take at bytes ++ x ∷ []) back in
    let rest : drop at bytes ≡ 92 ∷ drop (at + 1) bytes = drop_more bytes at 0 inside
    ∙ ap (λ x. x ∷ drop (at + 1) bytes) back in
    record {
      fits = omega arith;
      text_is = s.text_is ∙ (sym (append-nil (unescaped false (take at bytes)))
          ∙ (sym (spells_on (ends_of within) false (take at bytes) (92 ∷ []) false s.flag)
          ∙ ap (unescaped false) (sym more)));
      flag = ap (taking (ends_of within) false) more
          ∙ taking_on (ends_of within) false (take at bytes) (92 ∷ []) false s.flag;
      utf8 = drop_ascii text (drop (at + 1) bytes) 92 (omega arith) (subst IsUtf8 (ap (λ d. text ++ d) rest) s.utf8);
    }

-- the next byte is one of the text
pub going : (within : Within) (takes : Bool) (bytes : List ℕ) (at : ℕ) (rest : List ℕ) → drop at bytes ≡ rest
    → goes_on within takes rest ≡ true
    → (at < length bytes) × ((takes ≡ true) ⊎ (ends_of within (get_or bytes at 0) ≡ false))
going within takes bytes at [] is said = cc
going within takes bytes at (x ∷ rest) is said =
    let there : at < length bytes = there_is bytes at x rest is in (
      there,
      which takes (ends_of within x) (ends_of within (get_or bytes at 0))
          (ap (ends_of within) (same_byte there)) said,
    )
  where
    there_is : (bytes : List ℕ) (at x : ℕ) (rest : List ℕ) → drop at bytes ≡ x ∷ rest → at < length bytes
    there_is bytes at x rest is = let long = ap (length {A = ℕ}) is in omega (arith, long, length-drop at bytes)

    same_byte : at < length bytes → get_or bytes at 0 ≡ x
    same_byte there = let more : get_or bytes at 0 ∷ drop (at + 1) bytes ≡ x ∷ rest = sym (drop_more bytes at 0 there)
        ∙ is in cc

    which : (takes e f : Bool) → f ≡ e → (takes || not e) ≡ true → (takes ≡ true) ⊎ (f ≡ false)
    which true e f same said = inl refl
    which false true f same said = cc
    which false false f same said = inr same

stopped_by : (takes e : Bool) → (takes || not e) ≡ false → (takes ≡ false) × (e ≡ true)
stopped_by true e said = cc
stopped_by false true said = (refl, refl)
stopped_by false false said = cc

-- no byte of the text follows
pub stopped : (within : Within) (takes : Bool) (rest : List ℕ) → goes_on within takes rest ≡ false
    → (ended (ends_of within) rest ≡ true) × (takes ≡ true → rest ≡ [])
stopped within takes [] said = (refl, λ e. refl)
stopped within takes (x ∷ rest) said =
    let parts = stopped_by takes (ends_of within x) said in
    (parts.1, λ e. let bad : true ≡ false = sym e ∙ parts.0 in cc)

ends_small : (within : Within) (x : ℕ) → ends_of within x ≡ true → x < 128
ends_small Word x =
    small_either x _ _ (small_either x _ _
    (small_either x _ _ (small_either x _ _ (white_small x) (small_by x 40 (omega arith)))
    (small_by x 41 (omega arith))) (small_by x 34 (omega arith))) (small_by x 42 (omega arith))
ends_small Quotes x = small_by x 34 (omega arith)

pub scan_text : (within : Within) (text rest : List ℕ) → ended (ends_of within) rest ≡ true → IsUtf8 (text ++ rest)
    → IsUtf8 text
scan_text within text [] stop utf8 = subst IsUtf8 (append-nil text) utf8
scan_text within text (x ∷ rest) stop utf8 = (cut_at_ascii text rest x (ends_small within x stop) utf8).0

pub plain_going : (within : Within) (takes : Bool) (x : ℕ) → (takes ≡ true) ⊎ (ends_of within x ≡ false) → x ≢ 92
    → (takes ≡ true) ⊎ ((x ≢ 92) × (ends_of within x ≡ false))
plain_going within takes x (inl said) plain = inl said
plain_going within takes x (inr said) plain = inr (plain, said)
