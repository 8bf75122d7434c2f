-- Where a field ends in a text.
use Rattle.std.proofs.Common.{◌≡◌, ◌≢◌, ℕ, suc, ◌+◌, ◌⊎◌, inl, inr, Bool, true, false, List, [], ◌∷◌, ◌++◌, length, Option, Some, None, option_map, IsSome, refl, sym, ap, ◌∙◌, subst, arith, true≢false}
use Rattle.std.proofs.lemmas.Bool.Decides.{eqb_tells}
use Rattle.std.specs.Prelude.{◌==◌, ◌||◌}
use Rattle.dobj_field.specs.Field.{tokens_of, before_first, stands_apart, IsField}
use Rattle.dobj_field.specs.declared.field.Field.{Field}
use Rattle.dobj_field.specs.declared.field.Field.TheVariants.{Id, OfType, Pointer}
use Rattle.dobj_field.proofs.LetterLemmas.{plain_reads}
use Rattle.query_text.specs.declared.parts.Stop.{Stop}
use Rattle.query_text.specs.declared.parts.Stop.TheVariants.{Comma, White, Colon}
use Rattle.query_text.specs.Parts.{stops, untaken, BeginsWith}
use Rattle.query_text.proofs.PartLemmas.{nothing, stop_here, step_one, step_two}

-- a stop that no field has but after a backslash
abbrev pub EndsFields : Stop → Type 0
EndsFields stop = (x : ℕ) → stops stop x ≡ true → stands_apart x ≡ true

or_left : (a b : Bool) → a ≡ true → (a || b) ≡ true
or_left true b holds = refl
or_left false b holds = cc

or_right : (a b : Bool) → b ≡ true → (a || b) ≡ true
or_right true b holds = refl
or_right false b holds = holds

pub white_ends : EndsFields White
white_ends x holds = or_left _ _ (or_left _ _ (or_left _ _ (or_left _ _ holds)))

pub colon_ends : EndsFields Colon
colon_ends x holds = or_right _ _ holds

is_false : (b : Bool) → (b ≡ true → ⊥) → b ≡ false
is_false true never = absurd (never refl)
is_false false never = refl

not_stop : (stop : Stop) → EndsFields stop → (x : ℕ) → stands_apart x ≡ false → stops stop x ≡ false
not_stop stop ends x plain = is_false (stops stop x) (λ holds. true≢false (sym (ends x holds) ∙ plain))

pub no_backslash : (stop : Stop) (x : ℕ) → stops stop x ≡ true → x ≢ 92
no_backslash Comma x holds same = let bad : stops Comma 92 ≡ true = subst (λ y. stops Comma y ≡ true) same holds in cc
no_backslash White x holds same = let bad : stops White 92 ≡ true = subst (λ y. stops White y ≡ true) same holds in cc
no_backslash Colon x holds same = let bad : stops Colon 92 ≡ true = subst (λ y. stops Colon y ≡ true) same holds in cc

mapped : (f : List (List ℕ) → List (List ℕ)) (o : Option (List (List ℕ))) → IsSome (option_map f o) → IsSome o
mapped f None some = some
mapped f (Some x) some = refl

maps : (f : List (List ℕ) → List (List ℕ)) (o : Option (List (List ℕ))) → IsSome o → IsSome (option_map f o)
maps f None some = some
maps f (Some x) some = refl

digit_more : (x : ℕ) (rest : List ℕ) → x ≢ 47 → x ≢ 92 → x ≢ 126 → stands_apart x ≡ false → IsSome (tokens_of rest)
    → IsSome (tokens_of (x ∷ rest))
digit_more x rest a b c plain some =
    rw (plain_reads x rest a b c plain) (maps (before_first (x ∷ [])) (tokens_of rest) some)

-- a pointer's last byte
last_byte : (x : ℕ) → ((x == 47) ≡ true) × (x ≡ 47) ⊎ ((x == 47) ≡ false) × (x ≢ 47)
    → ((x == 92) ≡ true) × (x ≡ 92) ⊎ ((x == 92) ≡ false) × (x ≢ 92)
    → ((x == 126) ≡ true) × (x ≡ 126) ⊎ ((x == 126) ≡ false) × (x ≢ 126) → (b : Bool) → stands_apart x ≡ b
    → IsSome (tokens_of (x ∷ [])) → (x ≢ 92) × (stands_apart x ≡ false)
unfolding tokens_of
last_byte x (inl slash) other t b is some = (λ e. omega arith, rw slash.1 refl)
last_byte x (inr byte) (inl back) t b is some = let bad : false ≡ true = rw (byte.0, back.0) at some in cc
last_byte x (inr byte) (inr plain) (inl t) b is some = let bad : false ≡ true = rw (byte.0, plain.0, t.0) at some in cc
last_byte x (inr byte) (inr plain) (inr t) true is some = let bad : false ≡ true =
    rw (byte.0, plain.0, t.0, is) at some in cc
last_byte x (inr byte) (inr plain) (inr t) false is some = (plain.1, is)

-- a pointer's byte before others
next_byte : (x y : ℕ) (rest : List ℕ) → ((x == 47) ≡ true) × (x ≡ 47) ⊎ ((x == 47) ≡ false) × (x ≢ 47)
    → ((x == 92) ≡ true) × (x ≡ 92) ⊎ ((x == 92) ≡ false) × (x ≢ 92)
    → ((x == 126) ≡ true) × (x ≡ 126) ⊎ ((x == 126) ≡ false) × (x ≢ 126)
    → ((y == 48) ≡ true) × (y ≡ 48) ⊎ ((y == 48) ≡ false) × (y ≢ 48)
    → ((y == 49) ≡ true) × (y ≡ 49) ⊎ ((y == 49) ≡ false) × (y ≢ 49) → (b : Bool) → stands_apart x ≡ b
    → IsSome (tokens_of (x ∷ y ∷ rest))
    → ((x ≡ 92) × IsSome (tokens_of rest)) ⊎ ((x ≢ 92) × (stands_apart x ≡ false) × IsSome (tokens_of (y ∷ rest)))
unfolding tokens_of
next_byte x y rest (inl slash) q t u v b is some =
    inr (λ e. omega arith, rw slash.1 refl, mapped (λ tokens. [] ∷ tokens) (tokens_of (y ∷ rest)) (rw slash.0 at some))
next_byte x y rest (inr p) (inl back) t u v b is some =
    inl (back.1, mapped (before_first (y ∷ [])) (tokens_of rest) (rw (p.0, back.0) at some))
next_byte x y rest (inr p) (inr q) (inl tilde) (inl zero_digit) v b is some =
    let more : IsSome (tokens_of rest) =
    mapped (before_first (126 ∷ [])) (tokens_of rest) (rw (p.0, q.0, tilde.0, zero_digit.0) at some) in
    inr (
      q.1,
      rw tilde.1 refl,
      subst (λ z. IsSome (tokens_of (z ∷ rest))) (sym zero_digit.1)
          (digit_more 48 rest (λ e. omega arith) (λ e. omega arith) (λ e. omega arith) refl more),
    )
next_byte x y rest (inr p) (inr q) (inl tilde) (inr u) (inl one_digit) b is some =
    let more : IsSome (tokens_of rest) =
    mapped (before_first (47 ∷ [])) (tokens_of rest) (rw (p.0, q.0, tilde.0, u.0, one_digit.0) at some) in
    inr (
      q.1,
      rw tilde.1 refl,
      subst (λ z. IsSome (tokens_of (z ∷ rest))) (sym one_digit.1)
          (digit_more 49 rest (λ e. omega arith) (λ e. omega arith) (λ e. omega arith) refl more),
    )
next_byte x y rest (inr p) (inr q) (inl tilde) (inr u) (inr v) b is some =
    let bad : false ≡ true = rw (p.0, q.0, tilde.0, u.0, v.0) at some in cc
next_byte x y rest (inr p) (inr q) (inr t) u v true is some =
    let bad : false ≡ true = rw (p.0, q.0, t.0, is) at some in cc
next_byte x y rest (inr p) (inr q) (inr t) u v false is some =
    inr (q.1, is, mapped (before_first (x ∷ [])) (tokens_of (y ∷ rest)) (rw (p.0, q.0, t.0, is) at some))

-- nothing stands before a stop
pub stops_at : (stop : Stop) (after : List ℕ) → BeginsWith stop after → untaken stop after ≡ 0
stops_at stop [] stands = nothing stop
stops_at stop (x ∷ more) stands = stop_here stop x more (no_backslash stop x stands) stands

by_byte : (stop : Stop) → EndsFields stop → (x y : ℕ) (rest after : List ℕ)
    → ((x ≡ 92) × IsSome (tokens_of rest)) ⊎ ((x ≢ 92) × (stands_apart x ≡ false) × IsSome (tokens_of (y ∷ rest)))
    → (IsSome (tokens_of rest) → untaken stop (rest ++ after) ≡ length rest)
    → (IsSome (tokens_of (y ∷ rest)) → untaken stop (y ∷ rest ++ after) ≡ length (y ∷ rest))
    → untaken stop (x ∷ y ∷ rest ++ after) ≡ length (x ∷ y ∷ rest)
by_byte stop ends x y rest after (inl back) one two =
    rw back.0 (step_two stop y (rest ++ after) ∙ omega (arith, one back.1))
by_byte stop ends x y rest after (inr byte) one two =
    step_one stop x (y ∷ rest ++ after) byte.0 (not_stop stop ends x byte.1) ∙ omega (arith, two byte.2)

-- a pointer's text up to the stop after it
tokens_end : (stop : Stop) → EndsFields stop → (rest after : List ℕ) → BeginsWith stop after → IsSome (tokens_of rest)
    → untaken stop (rest ++ after) ≡ length rest
tokens_end stop ends [] [] stands some = nothing stop
tokens_end stop ends [] (x ∷ more) stands some = stop_here stop x more (no_backslash stop x stands) stands
tokens_end stop ends (x ∷ []) after stands some =
    let byte = last_byte x (eqb_tells x 47) (eqb_tells x 92) (eqb_tells x 126) (stands_apart x) refl some in
    step_one stop x after byte.0 (not_stop stop ends x byte.1) ∙ ap (λ n. 1 + n) (stops_at stop after stands)
tokens_end stop ends (x ∷ y ∷ rest) after stands some =
    by_byte stop ends x y rest after
    (next_byte x y rest (eqb_tells x 47) (eqb_tells x 92) (eqb_tells x 126) (eqb_tells y 48) (eqb_tells y 49)
    (stands_apart x) refl some)
    (tokens_end stop ends rest after stands) (tokens_end stop ends (y ∷ rest) after stands)

plain_end : (stop : Stop) → EndsFields stop → (x : ℕ) (rest after : List ℕ) → stands_apart x ≡ false → x ≢ 92
    → untaken stop (rest ++ after) ≡ length rest → untaken stop (x ∷ (rest ++ after)) ≡ suc (length rest)
plain_end stop ends x rest after plain byte more = step_one stop x (rest ++ after) byte (not_stop stop ends x plain)
    ∙ omega (arith, more)

-- a field's text up to the stop after it
pub field_end : (stop : Stop) → EndsFields stop → (text after : List ℕ) (field : Field) → BeginsWith stop after
    → IsField text field
    → untaken stop (text ++ after) ≡ length text
field_end stop ends text after Id stands is =
    rw is (plain_end stop ends 105 (100 ∷ []) after refl (λ e. omega arith)
    (plain_end stop ends 100 [] after refl (λ e. omega arith) (stops_at stop after stands)))
field_end stop ends text after OfType stands is =
    rw is (plain_end stop ends 116 (121 ∷ 112 ∷ 101 ∷ []) after refl (λ e. omega arith)
    (plain_end stop ends 121 (112 ∷ 101 ∷ []) after refl (λ e. omega arith)
    (plain_end stop ends 112 (101 ∷ []) after refl (λ e. omega arith)
    (plain_end stop ends 101 [] after refl (λ e. omega arith) (stops_at stop after stands)))))
field_end stop ends text after (Pointer tokens) stands is =
    rw is.1 (plain_end stop ends 47 is.0 after refl (λ e. omega arith)
    (tokens_end stop ends is.0 after stands (rw is.2 refl)))
