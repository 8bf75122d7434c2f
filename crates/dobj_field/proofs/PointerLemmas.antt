-- A pointer's text, read up to a place.
use Rattle.std.proofs.Common.{eqb-true, Bool, true, false, cond, ◌-◌, ◌≡◌, ℕ, zero, suc, ◌+◌, ◌<◌, ◌≤◌, List, [], ◌∷◌}
use Rattle.std.proofs.Common.{◌++◌, length, get_or, take, drop, Option, Some, None, option_map, IsSome, refl, sym, ap}
use Rattle.std.proofs.Common.{◌∙◌, subst, arith, IsUtf8, append_assoc, append-nil, length-drop}
use Rattle.std.specs.Prelude.{◌==◌, if◌then◌else◌}
use Rattle.std.proofs.lemmas.List.{take-append-drop, take_all, drop_all, drop-drop}
use Rattle.std.proofs.Math.Seq.{take-add}
use Rattle.dobj_field.specs.declared.field.Field.TheVariants.{Id, OfType, Pointer}
use Rattle.dobj_field.specs.Field.{tokens_of, before_first, NamesField}
use Rattle.dobj_field.specs.Breaks.{BreaksAt}
use Rattle.dobj_field.specs.Letters.{IsByte, IsFault, HasTokens}
use Rattle.dobj_field.proofs.Utf8.{cut_at_ascii}
use Rattle.dobj_field.proofs.LetterLemmas.{slash_reads, nothing_reads}

-- the tokens of a whole pointer
abbrev pub pointer_tokens : List ℕ → Option (List (List ℕ))
pointer_tokens [] = None
pointer_tokens (x ∷ rest) = if x == 47 then tokens_of rest else None

-- these tokens before those of the rest, whose first goes on with these bytes
abbrev pub joined : List (List ℕ) → List ℕ → List (List ℕ) → List (List ℕ)
joined tokens token more = tokens ++ before_first token more

abbrev pub IsPointer : List ℕ → Type 0
IsPointer text = (rest : List ℕ) × (text ≡ 47 ∷ rest)

-- what has been read of a pointer: whole tokens, and the first bytes of the next
pub record ReadTo (text : List ℕ) (at : ℕ) (tokens : List (List ℕ)) (token : List ℕ) : Type 0 where
  pub slash : IsPointer text
  pub some : 0 < at
  pub within : at ≤ length text
  pub reads : (more : List ℕ)
      → pointer_tokens (take at text ++ more) ≡ option_map (joined tokens token) (tokens_of more)
  pub utf8 : IsUtf8 (token ++ drop at text)

before_none : (tokens : List (List ℕ)) → before_first [] tokens ≡ tokens
before_none [] = refl
before_none (t ∷ ts) = refl

before_twice : (a b : List ℕ) (tokens : List (List ℕ))
    → before_first a (before_first b tokens) ≡ before_first (a ++ b) tokens
before_twice a b [] = refl
before_twice a b (t ∷ ts) = ap (λ x. x ∷ ts) (sym (append_assoc a b t))

joins_none : (o : Option (List (List ℕ))) → o ≡ option_map (joined [] []) o
joins_none None = refl
joins_none (Some tokens) = ap Some (sym (before_none tokens))

joins_slash : (tokens : List (List ℕ)) (token : List ℕ) (o : Option (List (List ℕ)))
    → option_map (joined tokens token) (option_map (λ more. [] ∷ more) o) ≡ option_map
    (joined (tokens ++ token ∷ []) []) o
joins_slash tokens token None = refl
joins_slash tokens token (Some more) =
    ap Some (ap (λ t. tokens ++ t ∷ more) (append-nil token)
    ∙ (sym (append_assoc tokens (token ∷ []) more) ∙ ap (λ m. (tokens ++ token ∷ []) ++ m) (sym (before_none more))))

joins_byte : (tokens : List (List ℕ)) (token : List ℕ) (x : ℕ) (o : Option (List (List ℕ)))
    → option_map (joined tokens token) (option_map (before_first (x ∷ [])) o) ≡ option_map
    (joined tokens (token ++ x ∷ [])) o
joins_byte tokens token x None = refl
joins_byte tokens token x (Some more) = ap (λ m. Some (tokens ++ m)) (before_twice token (x ∷ []) more)

-- the rest of a text as a slice
pub rest_is : (text : List ℕ) (at : ℕ) → take (length text - at) (drop at text) ≡ drop at text
rest_is text at = take_all (length text - at) (drop at text) (omega (arith, length-drop at text))

pub start : (text : List ℕ) → IsPointer text → IsUtf8 text → ReadTo text 1 [] []
start [] slash text = absurd (omega (arith, ap (length {A = ℕ}) slash.1))
start (x ∷ rest) slash text =
    let head : x ≡ 47 = ap (λ (l : List ℕ). get_or l 0 0) slash.1 in
    record {
      slash = slash;
      some = omega arith;
      within = omega arith;
      reads = λ more. rw head (joins_none (tokens_of more));
      utf8 = (cut_at_ascii [] rest 47 (omega arith) (rw head at text)).1;
    }

pub after_slash : (text : List ℕ) (at : ℕ) (tokens : List (List ℕ)) (token : List ℕ) → ReadTo text at tokens token
    → at < length text → IsPointer (drop at text) → ReadTo text (at + 1) (tokens ++ token ∷ []) []
after_slash text at tokens token r more head =
    let one : take (at + 1) text ≡ take at text ++ 47 ∷ [] =
    take-add at 1 text ∙ ap (λ d. take at text ++ take 1 d) head.1 in
    let rest : drop (at + 1) text ≡ head.0 = sym (drop-drop 1 at text) ∙ ap (λ d. drop 1 d) head.1 in
    record {
      slash = r.slash;
      some = omega arith;
      within = omega arith;
      reads =
          λ more. ap (λ t. pointer_tokens (t ++ more)) one
          ∙ (ap pointer_tokens (append_assoc (take at text) (47 ∷ []) more)
          ∙ (r.reads (47 ∷ more)
          ∙ (ap (option_map (joined tokens token)) (slash_reads more) ∙ joins_slash tokens token (tokens_of more))));
      utf8 = rw rest (cut_at_ascii token head.0 47 (omega arith) (rw head.1 at r.utf8)).1;
    }

pub token_text : (text : List ℕ) (at : ℕ) (tokens : List (List ℕ)) (token : List ℕ) → ReadTo text at tokens token
    → IsPointer (drop at text) → IsUtf8 token
token_text text at tokens token r head = (cut_at_ascii token head.0 47 (omega arith) (rw head.1 at r.utf8)).0

pub after_byte : (text : List ℕ) (at : ℕ) (tokens : List (List ℕ)) (token : List ℕ) (byte width : ℕ)
    → ReadTo text at tokens token
    → IsByte (drop at text) byte width → ReadTo text (at + width) tokens (token ++ byte ∷ [])
after_byte text at tokens token byte width r b =
    let fits : width ≤ length (drop at text) = b.within in
    let on = take-add at width text in
    let rest : drop width (drop at text) ≡ drop (at + width) text = drop-drop width at text in
    record {
      slash = r.slash;
      some = omega arith;
      within = omega (arith, length-drop at text);
      reads =
          λ more. ap (λ t. pointer_tokens (t ++ more)) on
          ∙ (ap pointer_tokens (append_assoc (take at text) (take width (drop at text)) more)
          ∙ (r.reads (take width (drop at text) ++ more)
          ∙ (ap (option_map (joined tokens token)) (b.reads more) ∙ joins_byte tokens token byte (tokens_of more))));
      utf8 = let one = b.utf8 token r.utf8 in rw (append_assoc token (byte ∷ []) (drop (at + width) text), ← rest) one;
    }

-- a choice that gives something
chosen : (b : Bool) (o : Option (List (List ℕ))) (x : List (List ℕ)) → cond b o None ≡ Some x
    → (b ≡ true) × (o ≡ Some x)
chosen true o x same = (refl, same)
chosen false o x same = cc

names : (text : List ℕ) (tokens : List (List ℕ)) → pointer_tokens text ≡ Some tokens → HasTokens text tokens
names [] tokens found = cc
names (x ∷ rest) tokens found =
    let parts = chosen (x == 47) (tokens_of rest) tokens found in
    (rest, ap (λ y. y ∷ rest) (eqb-true x 47 parts.0), parts.1)

-- a text that begins with a slash names no field but a pointer
names_pointer : (text : List ℕ) → IsPointer text → NamesField text → pointer_tokens text ≡ None → ⊥
names_pointer text (rest, slash) (Id, same) none =
    let word : get_or text 0 0 ≡ 105 = ap (λ (l : List ℕ). get_or l 0 0) same in
    let first : get_or text 0 0 ≡ 47 = ap (λ (l : List ℕ). get_or l 0 0) slash in
    omega arith
names_pointer text (rest, slash) (OfType, same) none =
    let word : get_or text 0 0 ≡ 116 = ap (λ (l : List ℕ). get_or l 0 0) same in
    let first : get_or text 0 0 ≡ 47 = ap (λ (l : List ℕ). get_or l 0 0) slash in
    omega arith
names_pointer text (rest, slash) (Pointer tokens, (body, same, found)) none =
    let e : Some tokens ≡ None = sym found ∙ (sym (ap pointer_tokens same) ∙ none) in cc

still_pointer : (text more : List ℕ) (n : ℕ) → IsPointer text → 0 < n → IsPointer (take n text ++ more)
still_pointer text more zero slash some = absurd (omega arith)
still_pointer text more (suc n) slash some = (take n slash.0 ++ more, ap (λ t. take (suc n) t ++ more) slash.1)

pub at_end : (text : List ℕ) (at : ℕ) (tokens : List (List ℕ)) (token : List ℕ) → ReadTo text at tokens token
    → length text ≤ at → HasTokens text (tokens ++ token ∷ []) × IsUtf8 token
at_end text at tokens token r over =
    let whole : take at text ++ [] ≡ text = append-nil (take at text) ∙ take_all at text over in
    let none : drop at text ≡ [] = drop_all at text over in (
      names text (tokens ++ token ∷ []) (ap pointer_tokens (sym whole)
          ∙ (r.reads []
          ∙ (ap (option_map (joined tokens token)) nothing_reads
          ∙ ap (λ t. Some (tokens ++ t ∷ [])) (append-nil token)))),
      subst IsUtf8 (ap (λ d. token ++ d) none ∙ append-nil token) r.utf8,
    )

-- what an option holds
some_value : (o : Option (List (List ℕ))) → IsSome o → (x : List (List ℕ)) × (o ≡ Some x)
some_value None some = cc
some_value (Some x) some = (x, refl)

-- a pointer that goes on after what was read
reads_on : (text : List ℕ) (at : ℕ) (tokens : List (List ℕ)) (token : List ℕ) (n : ℕ) (more : List ℕ)
    → ReadTo text at tokens token
    → pointer_tokens (take (at + n) text ++ more) ≡ option_map (joined tokens token)
    (tokens_of (take n (drop at text) ++ more))
reads_on text at tokens token n more r =
    ap (λ t. pointer_tokens (t ++ more)) (take-add at n text)
    ∙ (ap pointer_tokens (append_assoc (take at text) (take n (drop at text)) more)
    ∙ r.reads (take n (drop at text) ++ more))

pub at_fault : (text : List ℕ) (at : ℕ) (tokens : List (List ℕ)) (token : List ℕ) (place : ℕ)
    → ReadTo text at tokens token
    → IsFault (drop at text) place → BreaksAt NamesField text (at + place)
at_fault text at tokens token place r f =
    let fits : place ≤ length (drop at text) = f.within in
    let left = length-drop at text in
    let one : at + place + 1 ≡ at + (place + 1) = omega arith in
    let value = some_value (tokens_of (take place (drop at text) ++ f.begins.0)) f.begins.1 in
    let named = names (take (at + place) text ++ f.begins.0) (joined tokens token value.0)
    (reads_on text at tokens token place f.begins.0 r ∙ ap (option_map (joined tokens token)) value.1) in
    record {
      within = omega (arith, r.within);
      begins = (f.begins.0, (Pointer (joined tokens token value.0), named));
      ends =
          λ h more named. names_pointer (take (at + place + 1) text ++ more)
          (still_pointer text more (at + place + 1) r.slash (omega arith)) named
          (ap (λ n. pointer_tokens (take n text ++ more)) one ∙ (reads_on text at tokens token (place + 1) more r
          ∙ ap (option_map (joined tokens token)) (f.ends (omega arith) more)));
      short = λ e named. names_pointer text r.slash named
          (ap pointer_tokens (sym (take-append-drop at text))
          ∙ (r.reads (drop at text) ∙ ap (option_map (joined tokens token)) (f.short (omega arith))));
    }
