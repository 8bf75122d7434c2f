-- Words and white bytes at the head of a text.
use Rattle.std.proofs.Common.{◌≡◌, ℕ, ◌+◌, ◌<◌, ◌≤◌, inl, Bool, true, false, List, [], ◌∷◌, ◌++◌, length, get_or, take, drop, refl, sym, ap, ◌∙◌, subst, arith, append_assoc, length-append, true≢false}
use Rattle.std.specs.Prelude.{not}
use Rattle.std.proofs.lemmas.List.{take-append-drop, append_cancel_left, append_cancel_right, get_or_append_left, get_or-take, length-take}
use Rattle.dobj_field.specs.Field.{is_white}
use Rattle.query_text.specs.Parts.{all_white, past_white}
use Rattle.query_text.specs.Spelling.{IsGap}
use Rattle.query_text.specs.Reading.{sharp_of, is_sharp}
use Rattle.query_text.specs.Faults.{BreaksOff, IsFault}
use Rattle.query_text.specs.Stages.{Leads, Word, White, Gap}
use Rattle.query_text.proofs.Languages.{first_taken}
use Rattle.query_text.proofs.CutLemmas.{skip_white, split_white, both}

-- some text is in the language
abbrev pub Live : (Bool → List ℕ → Type 0) → Type 0
Live N = (more : List ℕ) × N true more

pub word_leads : (word rest : List ℕ) (N : Bool → List ℕ → Type 0) → Leads (Word word N) N word rest
word_leads word rest N = record {
  forth = λ strict more said. (more, refl, said);
  back = λ strict more same (after, is, said). subst (N strict) (sym (append_cancel_left word more after is)) said;
}

-- the byte at a place that both texts have
pub byte_there : (text more : List ℕ) (n : ℕ) → n < length text
    → get_or (take (n + 1) text ++ more) n 0 ≡ get_or text n 0
byte_there text more n h =
    get_or_append_left (take (n + 1) text) more 0 n (omega (arith, length-take (n + 1) text))
    ∙ get_or-take (n + 1) text n 0 (omega arith)

-- the text has n bytes of the word, and another byte after them
pub word_breaks : (word rest : List ℕ) (n : ℕ) (N : Bool → List ℕ → Type 0) → Live N → n < length word → n ≤ length rest
    → take n rest ≡ take n word → (n < length rest → get_or rest n 0 ≡ get_or word n 0 → ⊥)
    → BreaksOff (Word word N) rest n
word_breaks word rest n N live fits within same differs = record {
  within = within;
  begins = (
    drop n word ++ live.0,
    (
      live.0,
      ap (λ t. t ++ (drop n word ++ live.0)) same
          ∙ (sym (append_assoc (take n word) (drop n word) live.0) ∙ ap (λ t. t ++ live.0) (take-append-drop n word)),
      live.1,
    ),
  );
  ends = λ inside more (after, is, said). differs inside (sym (byte_there rest more n inside)
      ∙ (ap (λ (t : List ℕ). get_or t n 0) is ∙ get_or_append_left word after 0 n fits));
  short = λ whole (after, is, said). absurd (omega (arith, ap (length {A = ℕ}) is, length-append word after));
}

pub word_faults : (word rest : List ℕ) (n : ℕ) (N : Bool → List ℕ → Type 0) → Live N → n < length word → n ≤ length rest
    → take n rest ≡ take n word → (n < length rest → get_or rest n 0 ≡ get_or word n 0 → ⊥)
    → IsFault (Word word N) rest n
word_faults word rest n N live fits within same differs = inl (word_breaks word rest n N live fits within same differs)

abbrev pub Sharp : (Bool → List ℕ → Type 0) → Type 0
Sharp N = (strict : Bool) (text : List ℕ) → N strict text → is_sharp text ≡ true

black : (x : ℕ) → not (is_white x) ≡ true → is_white x ≡ false
black x dark = by_cases (is_white x) dark
  where
    by_cases : (b : Bool) → not b ≡ true → b ≡ false
    by_cases true said = cc
    by_cases false said = refl

sharp_past : (rest : List ℕ) → is_sharp rest ≡ true → past_white rest ≡ rest
sharp_past [] keen = refl
sharp_past (x ∷ rest) keen = rw (black x keen) refl

past_sharp : (rest : List ℕ) → is_sharp (past_white rest) ≡ true
past_sharp [] = refl
past_sharp (x ∷ rest) = by_white (is_white x) refl (past_sharp rest)
  where
    by_white : (b : Bool) → is_white x ≡ b → is_sharp (past_white rest) ≡ true → is_sharp (past_white (x ∷ rest)) ≡ true
    by_white true is more = rw is more
    by_white false is more = rw (is, is) refl

-- white bytes end where a byte that isn't white stands
pub white_split : (one two a b : List ℕ) → all_white one ≡ true → all_white two ≡ true → is_sharp a ≡ true
    → is_sharp b ≡ true → one ++ a ≡ two ++ b → a ≡ b
white_split one two a b white also keen sharp_b same =
    sym (sharp_past a keen) ∙ (sym (skip_white one a white)
    ∙ (ap past_white same ∙ (skip_white two b also ∙ sharp_past b sharp_b)))

-- what `white_len` counts
pub white_counted : (rest : List ℕ) (n : ℕ) → drop n rest ≡ past_white rest → (all_white (take n rest) ≡ true)
    × (is_sharp (drop n rest) ≡ true)
white_counted rest n is =
    let parts = split_white rest in
    let same : take n rest ++ past_white rest ≡ parts.0 ++ past_white rest = ap (λ d. take n rest ++ d) (sym is)
    ∙ (take-append-drop n rest ∙ parts.1) in
    (rw (append_cancel_right (take n rest) parts.0 (past_white rest) same) parts.2, rw is (past_sharp rest))

pub white_leads : (white rest : List ℕ) (N : Bool → List ℕ → Type 0) → Sharp N → all_white white ≡ true
    → is_sharp rest ≡ true → Leads (White N) N white rest
white_leads white rest N keen is dark = record {
  forth = λ strict more said. (white, more, refl, is, said);
  back = λ strict more same (other, after, are, also, said).
      subst (N strict) (sym (white_split white other more after is also (ap sharp_of same ∙ dark)
      (keen strict after said) are)) said;
}

pub gap_leads : (gap rest : List ℕ) (N : Bool → List ℕ → Type 0) → Sharp N → IsGap gap → is_sharp rest ≡ true
    → Leads (Gap N) N gap rest
gap_leads gap rest N keen is dark = record {
  forth = λ strict more said. (gap, more, refl, is, said);
  back = λ strict more same (other, after, are, also, said).
      subst (N strict) (sym (white_split gap other more after is.1 also.1 (ap sharp_of same ∙ dark)
      (keen strict after said) are)) said;
}

no_gap : (rest gap after : List ℕ) → is_sharp rest ≡ true → IsGap gap → rest ≡ gap ++ after → ⊥
no_gap rest [] after dark is same = is.0 refl
no_gap rest (x ∷ gap) after dark is same =
    let white : is_white x ≡ true = (both (is_white x) (all_white gap) is.1).0 in
    let other : is_white x ≡ false = black x (ap is_sharp (sym same) ∙ dark) in
    true≢false (sym white ∙ other)

-- no white byte stands where there must be one
pub gap_faults : (rest : List ℕ) (N : Bool → List ℕ → Type 0) → Live N → is_sharp rest ≡ true → IsFault (Gap N) rest 0
gap_faults rest N live dark = inl (record {
  within = omega arith;
  begins = (32 ∷ live.0, (32 ∷ [], live.0, refl, ((λ e. cc), refl), live.1));
  ends = λ inside more (gap, after, are, is, said). no_gap (take (0 + 1) rest ++ more) gap after
      (ap sharp_of (first_taken rest more 0 inside) ∙ dark) is are;
  short = λ whole (gap, after, are, is, said). no_gap rest gap after dark is are;
})

pub white_live : (N : Bool → List ℕ → Type 0) → Live N → Live (White N)
white_live N live = (live.0, ([], live.0, refl, refl, live.1))

pub word_live : (word : List ℕ) (N : Bool → List ℕ → Type 0) → Live N → Live (Word word N)
word_live word N live = (word ++ live.0, (live.0, refl, live.1))

pub gap_live : (N : Bool → List ℕ → Type 0) → Live N → Live (Gap N)
gap_live N live = (32 ∷ live.0, (32 ∷ [], live.0, refl, ((λ e. cc), refl), live.1))
