-- What the items of an array are read as, one after another.
use Rattle.std.proofs.Common.{◌≡◌, ℕ, ◌+◌, ◌<◌, ◌≤◌, List, [], ◌∷◌, ◌++◌, length, drop, Bool, nat_lt, is_some, Option, Some, None, option_map, option_and_then, refl, sym, ap, ◌∙◌, append_assoc, append-nil, arith}
use Rattle.std.specs.List.{slice_get}
use Rattle.std.proofs.lemmas.Bool.{lt-ltb}
use Rattle.std.proofs.lemmas.List.{drop_more, drop_all}
use Rattle.std.proofs.lemmas.Option.{slice_get_within, get_or_from_slice_get}
use Rattle.doip_json.specs.Value.{Value, values_from, values_in}
use Rattle.doip_json.proofs.PlainLists.{values_listed}
use Rattle.schema_core.specs.Shapes.{all_in, unless_empty}

pub next_item : {X : Type 0} (xs : List X) (i : ℕ) (x : X) → slice_get xs i ≡ Some x → drop i xs ≡ x ∷ drop (i + 1) xs
next_item xs i x is = drop_more xs i x (slice_get_within xs i x is) ∙ ap (λ y. y ∷ drop (i + 1) xs) (get_or_from_slice_get xs i x x is)

module _ {A : Type 0} (read : Value → Option A) where
  -- what the items from place i on are read as
  abbrev pub rest_in : List Value → ℕ → Option (List A)
  rest_in vs i = all_in read (values_from (drop i vs))

  abbrev with_first : Option A → Option (List A) → Option (List A)
  with_first o rest = option_and_then (λ a. option_map (λ more. a ∷ more) rest) o

  pub rest_more : (vs : List Value) (i : ℕ) (v : Value) → slice_get vs i ≡ Some v
      → rest_in vs i ≡ option_and_then (λ a. option_map (λ more. a ∷ more) (rest_in vs (i + 1))) (read v)
  rest_more vs i v is = ap (λ xs. all_in read (values_from xs)) (next_item vs i v is)

  pub rest_none : (vs : List Value) (i : ℕ) (v : Value) → slice_get vs i ≡ Some v → read v ≡ None → rest_in vs i ≡ None
  rest_none vs i v is none = rest_more vs i v is ∙ ap (option_and_then (λ a. option_map (λ more. a ∷ more) (rest_in vs (i + 1)))) none

  some_mapped : (a : A) (o : Option (List A)) → is_some (option_map (λ more. a ∷ more) o) ≡ is_some o
  some_mapped a None = refl
  some_mapped a (Some more) = refl

  pub rest_some : (vs : List Value) (i : ℕ) (v : Value) (a : A) → slice_get vs i ≡ Some v → read v ≡ Some a
      → is_some (rest_in vs i) ≡ is_some (rest_in vs (i + 1))
  rest_some vs i v a is some =
      ap is_some (rest_more vs i v is ∙ ap (option_and_then (λ b. option_map (λ more. b ∷ more) (rest_in vs (i + 1)))) some)
      ∙ some_mapped a (rest_in vs (i + 1))

  pub rest_end : (vs : List Value) (i : ℕ) → length vs ≤ i → rest_in vs i ≡ Some []
  rest_end vs i end = ap (λ xs. all_in read (values_from xs)) (drop_all i vs end)

  -- one more is read, after those that were read so far
  after_one : (done : List A) (a : A) (o : Option (List A)) → option_map (λ more. done ++ more) (option_map (λ more. a ∷ more) o) ≡ option_map (λ more. (done ++ a ∷ []) ++ more) o
  after_one done a None = refl
  after_one done a (Some more) = ap Some (sym (append_assoc done (a ∷ []) more))

  pub rest_read : (vs : List Value) (i : ℕ) (v : Value) (a : A) (done : List A) → slice_get vs i ≡ Some v → read v ≡ Some a
      → option_map (λ more. done ++ more) (rest_in vs i) ≡ option_map (λ more. (done ++ a ∷ []) ++ more) (rest_in vs (i + 1))
  rest_read vs i v a done is some =
      ap (option_map (λ more. done ++ more)) (rest_more vs i v is ∙ ap (option_and_then (λ b. option_map (λ more. b ∷ more) (rest_in vs (i + 1)))) some)
      ∙ after_one done a (rest_in vs (i + 1))

  pub none_read : (vs : List Value) → (i : ℕ) (v : Value) (done : List A) → slice_get vs i ≡ Some v → read v ≡ None
      → option_map (λ more. done ++ more) (rest_in vs i) ≡ None
  none_read vs i v done is none = ap (option_map (λ more. done ++ more)) (rest_none vs i v is none)

  pub all_read : (vs : List Value) (i : ℕ) (done : List A) → length vs ≤ i → option_map (λ more. done ++ more) (rest_in vs i) ≡ Some done
  all_read vs i done end = ap (option_map (λ more. done ++ more)) (rest_end vs i end) ∙ ap Some (append-nil done)

  -- an array that is not empty
  some_there : (a : A) (o : Option (List A)) → is_some o ≡ is_some (option_and_then unless_empty (option_map (λ more. a ∷ more) o))
  some_there a None = refl
  some_there a (Some more) = refl

  first_there : (o : Option A) (rest : Option (List A))
      → is_some (with_first o rest) ≡ is_some (option_and_then unless_empty (with_first o rest))
  first_there None rest = refl
  first_there (Some a) rest = some_mapped a rest ∙ some_there a rest

  pub not_empty : (vs : List Value) → 0 < length vs → is_some (all_in read (values_from vs)) ≡ is_some (option_and_then unless_empty (all_in read (values_from vs)))
  not_empty [] some = absurd (omega arith)
  not_empty (v ∷ vs) some = first_there (read v) (all_in read (values_from vs))

pub members_shaped : (vs : List Value) (b : Bool) → b ≡ nat_lt 0 (length vs) → b ≡ is_some (unless_empty (values_in (values_from vs)))
members_shaped vs b is = is ∙ (cases vs ∙ ap (λ xs. is_some (unless_empty xs)) (sym (values_listed vs)))
  where
    cases : (xs : List Value) → nat_lt 0 (length xs) ≡ is_some (unless_empty xs)
    cases [] = refl
    cases (x ∷ xs) = lt-ltb 0 (length (x ∷ xs)) (omega arith)

pub members_listed : (vs : List Value) → 0 < length vs → Some vs ≡ unless_empty (values_in (values_from vs))
members_listed vs some = cases vs some ∙ ap unless_empty (sym (values_listed vs))
  where
    cases : (xs : List Value) → 0 < length xs → Some xs ≡ unless_empty xs
    cases [] some = absurd (omega arith)
    cases (x ∷ xs) some = refl
