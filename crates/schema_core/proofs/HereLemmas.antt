-- The words that a value fails by itself, computed.
use Rattle.std.proofs.Common.{◌≡◌, ℕ, ◌+◌, ◌<◌, ◌≤◌, ℤ, ◌<ℤ◌, List, [], ◌∷◌, length, nat_eq, nat_lt, Bool, true, false, not, ◌&&◌, Option, Some, None, is_some, find, cond, chars, inl, inr, refl, ap, ap₂, ◌∙◌, subst, arith, Any, Contains, IsTrue, IsSomeAnd}
use Rattle.std.specs.Bool.{Decides}
use Rattle.std.specs.Cmp.Lexicographic.{pointwise}
use Rattle.std.specs.Int.Signed.{lt_z}
use Rattle.std.specs.List.{list_any}
use Rattle.std.specs.Option.{option_map_or}
use Rattle.std.proofs.lemmas.Bool.{cases_lt, eqb-true, eq-eqb}
use Rattle.std.proofs.lemmas.Bool.Decides.{Decides-ltb, Decides-int_eq, Decides-not, not_from_Decides}
use Rattle.std.specs.Cmp.{booleans_Decides}
use Rattle.std.proofs.lemmas.List.Folds.{Any-from_list_any, list_any-from_Any}
use Rattle.std.proofs.lemmas.Map.Views.{Contains-from_any}
use Rattle.doip_json.specs.Value.{Value, null, truth, whole, text, list, table, Values, no_values, value, Entries, no_entries, entry}
use Rattle.doip_json.specs.Look.{entry_of}
use Rattle.schema_core.specs.declared.word.SchemaWord.{SchemaWord}
use Rattle.schema_core.specs.declared.word.SchemaWord.TheVariants as word
use Rattle.schema_core.specs.declared.words.Words.{Words}
use Rattle.schema_core.specs.Failing.{has_kind, number_in, string_in, array_in, object_in, AreBothAnd, FailsHere}
use Rattle.schema_core.specs.First.{turn_of, IsFirstHere}
use Rattle.schema_core.specs.FirstFailure.{same_value, same_values, same_entries, both_pass, fails_here, order}
use Rattle.schema_core.proofs.OneFirst.{same_word}

-- ---- equal values

both_true : (x y : Bool) → x && y ≡ true → (x ≡ true) × (y ≡ true)
both_true true y e = (refl, e)
both_true false y e = absurd (cc)

equal_lists : (xs ys : List ℕ) → pointwise nat_eq xs ys ≡ true → xs ≡ ys
equal_lists [] [] same = refl
equal_lists [] (y ∷ ys) same = absurd (cc)
equal_lists (x ∷ xs) [] same = absurd (cc)
equal_lists (x ∷ xs) (y ∷ ys) same =
    let parts = both_true (nat_eq x y) (pointwise nat_eq xs ys) same in
    ap₂ (λ z zs. z ∷ zs) (eqb-true x y parts.0) (equal_lists xs ys parts.1)

list_again : (xs : List ℕ) → pointwise nat_eq xs xs ≡ true
list_again [] = refl
list_again (x ∷ xs) = ap₂ (λ p q. p && q) (eq-eqb x x refl) (list_again xs)

entry_same : (k l : List ℕ) (v u : Value) (es fs : Entries) → k ≡ l → v ≡ u → es ≡ fs → entry k v es ≡ entry l u fs
entry_same k l v u es fs key val rest = ap (λ x. entry x v es) key ∙ ap₂ (λ x y. entry l x y) val rest

mutual
  values_equal : (a b : Value) → same_value a b ≡ true → a ≡ b
  values_equal null null same = refl
  values_equal (truth a) (truth b) same = ap truth ((booleans_Decides a b).0 same)
  values_equal (whole a) (whole b) same = ap whole ((Decides-int_eq a b).0 same)
  values_equal (text a) (text b) same = ap text (equal_lists a b same)
  values_equal (list a) (list b) same = ap list (items_equal a b same)
  values_equal (table a) (table b) same = ap table (entries_equal a b same)
  values_equal a b same = absurd (cc)

  items_equal : (a b : Values) → same_values a b ≡ true → a ≡ b
  items_equal no_values no_values same = refl
  items_equal (value v vs) (value u us) same =
      let parts = both_true (same_value v u) (same_values vs us) same in
      ap₂ value (values_equal v u parts.0) (items_equal vs us parts.1)
  items_equal a b same = absurd (cc)

  entries_equal : (a b : Entries) → same_entries a b ≡ true → a ≡ b
  entries_equal no_entries no_entries same = refl
  entries_equal (entry k v es) (entry l u fs) same =
      let parts = both_true (pointwise nat_eq k l) (same_value v u && same_entries es fs) same in
      let more = both_true (same_value v u) (same_entries es fs) parts.1 in
      entry_same k l v u es fs (equal_lists k l parts.0) (values_equal v u more.0) (entries_equal es fs more.1)
  entries_equal a b same = absurd (cc)

mutual
  value_again : (a : Value) → same_value a a ≡ true
  value_again null = refl
  value_again (truth b) = (booleans_Decides b b).1 refl
  value_again (whole z) = (Decides-int_eq z z).1 refl
  value_again (text s) = list_again s
  value_again (list vs) = items_again vs
  value_again (table es) = entries_again es

  items_again : (vs : Values) → same_values vs vs ≡ true
  items_again no_values = refl
  items_again (value v vs) = ap₂ (λ p q. p && q) (value_again v) (items_again vs)

  entries_again : (es : Entries) → same_entries es es ≡ true
  entries_again no_entries = refl
  entries_again (entry k v es) = ap₂ (λ p q. p && q) (list_again k) (ap₂ (λ p q. p && q) (value_again v) (entries_again es))

-- ---- each word

nothing : Decides false ⊥
nothing = (λ no. absurd (cc), λ none. absurd none)

both_decide : {A B : Type 0} (o : Option A) (p : Option B) (test : A → B → Bool) (P : A → B → Type 0) → ((a : A) → (b : B) → Decides (test a b) (P a b))
    → Decides (both_pass o p test) (AreBothAnd o p P)
both_decide (Some a) (Some b) test P each = each a b
both_decide (Some a) None test P each = nothing
both_decide None p test P each = nothing

one_decides : {A : Type 0} (o : Option A) (test : A → Bool) (P : A → Type 0) → ((a : A) → Decides (test a) (P a))
    → Decides (option_map_or test o false) (IsSomeAnd o P)
one_decides (Some a) test P each = each a
one_decides None test P each = nothing

less_int : (m n : ℤ) → Decides (lt_z m n) (m <ℤ n)
less_int m n = (λ yes'. lt_yes m n yes', λ less. lt_true m n less)
  where
    lt_yes : (m n : ℤ) → lt_z m n ≡ true → m <ℤ n
    lt_yes m n is = grind arith

    lt_true : (m n : ℤ) → m <ℤ n → lt_z m n ≡ true
    lt_true m n less = grind arith

absent : {A : Type 0} (o : Option A) → Decides (not (is_some o)) (o ≡ None)
absent None = (λ same. refl, λ same. refl)
absent (Some a) = (λ no. absurd (cc), λ same. absurd (cc))

any_decides : {A : Type 0} (test : A → Bool) (P : A → Type 0) (xs : List A) → ((a : A) → Decides (test a) (P a)) → Decides (list_any test xs) (Any P xs)
any_decides test P xs each = (
  λ found. let any = Any-from_list_any test xs found in (any.0, any.1, any.2, any.3, (each any.1).0 any.4),
  λ any. list_any-from_Any test xs (any.0, any.1, any.2, any.3, (each any.1).1 any.4),
)

is_true : (b : Bool) → Decides b (IsTrue b)
is_true b = (λ e. e, λ e. e)

contained : (v : Value) (members : List Value) → Decides (list_any (same_value v) members) (Contains members v)
contained v members = (
  λ found. Contains-from_any {eq = same_value} values_equal v members found,
  λ has. list_any-from_Any (same_value v) members (has.0, v, has.1, has.2, value_again v),
)

-- whether a value fails a word
pub tells : (w : Words) (v : Value) (x : SchemaWord) → Decides (fails_here w v x) (FailsHere w v x)
tells w v word.Kind = one_decides w.kinds (λ kinds. not (list_any (has_kind v) kinds)) _
    (λ kinds. Decides-not (list_any (has_kind v) kinds) (any_decides (has_kind v) (λ k. IsTrue (has_kind v k)) kinds (λ k. is_true (has_kind v k))))
tells w v word.Enum = one_decides w.members (λ members. not (list_any (same_value v) members)) _
    (λ members. Decides-not (list_any (same_value v) members) (contained v members))
tells w v word.Minimum = both_decide w.minimum (number_in v) (λ least n. lt_z n least) (λ least n. n <ℤ least) (λ least n. less_int n least)
tells w v word.Maximum = both_decide w.maximum (number_in v) (λ most n. lt_z most n) (λ most n. most <ℤ n) (λ most n. less_int most n)
tells w v word.MinLength = both_decide w.min_length (string_in v) (λ least s. nat_lt (length (chars s)) least) (λ least s. length (chars s) < least) (λ least s. Decides-ltb (length (chars s)) least)
tells w v word.MaxLength = both_decide w.max_length (string_in v) (λ most s. nat_lt most (length (chars s))) (λ most s. most < length (chars s)) (λ most s. Decides-ltb most (length (chars s)))
tells w v word.MinItems = both_decide w.min_items (array_in v) (λ least vs. nat_lt (length vs) least) (λ least vs. length vs < least) (λ least vs. Decides-ltb (length vs) least)
tells w v word.MaxItems = both_decide w.max_items (array_in v) (λ most vs. nat_lt most (length vs)) (λ most vs. most < length vs) (λ most vs. Decides-ltb most (length vs))
tells w v word.Required = one_decides (object_in v) (λ es. list_any (λ key. not (is_some (entry_of key es))) w.required) (λ es. Any (λ key. entry_of key es ≡ None) w.required)
    (λ es. any_decides (λ key. not (is_some (entry_of key es))) (λ key. entry_of key es ≡ None) w.required (λ key. absent (entry_of key es)))
tells w v word.AdditionalProperties = nothing
tells w v word.Properties = nothing
tells w v word.Items = nothing

-- ---- the first of them

-- the words have these turns, and none is left out
Turns : ℕ → List SchemaWord → Type 0
Turns n [] = n ≡ 9
Turns n (w ∷ ws) = (turn_of w ≡ n) × Turns (n + 1) ws

Passed : Words → Value → ℕ → Type 0
Passed w v n = (x : SchemaWord) → turn_of x < n → ¬ (FailsHere w v x)

late : (w : Words) (v : Value) (x : SchemaWord) → 9 ≤ turn_of x → ¬ (FailsHere w v x)
late w v word.Kind from fails = absurd (omega arith)
late w v word.Enum from fails = absurd (omega arith)
late w v word.Minimum from fails = absurd (omega arith)
late w v word.Maximum from fails = absurd (omega arith)
late w v word.MinLength from fails = absurd (omega arith)
late w v word.MaxLength from fails = absurd (omega arith)
late w v word.MinItems from fails = absurd (omega arith)
late w v word.MaxItems from fails = absurd (omega arith)
late w v word.Required from fails = absurd (omega arith)
late w v word.AdditionalProperties from fails = fails
late w v word.Properties from fails = fails
late w v word.Items from fails = fails

passed_more : (w : Words) (v : Value) (n : ℕ) (y : SchemaWord) → turn_of y ≡ n → Passed w v n → ¬ (FailsHere w v y) → Passed w v (n + 1)
unfolding Passed
passed_more w v n y turn passed not_here x less fails = elim (cases_lt (turn_of x) n) [
  | inl before ↦ passed x before fails
  | inr after ↦ let at : turn_of x ≡ turn_of y = omega (arith, turn) in
      not_here (subst (FailsHere w v) (same_word x y at) fails)
]

found_word : (w : Words) (v : Value) (n : ℕ) (ws : List SchemaWord) → Turns n ws → Passed w v n → IsFirstHere w v (find (fails_here w v) ws)
unfolding Turns Passed
found_word w v n [] turns passed = λ x fails. elim (cases_lt (turn_of x) n) [
  | inl before ↦ passed x before fails
  | inr after ↦ late w v x (omega (arith, turns)) fails
]
found_word w v n (y ∷ ws) turns passed =
    by (fails_here w v y) (tells w v y) (λ more. found_word w v (n + 1) ws turns.1 more)
  where
    by : (b : Bool) → Decides b (FailsHere w v y) → (Passed w v (n + 1) → IsFirstHere w v (find (fails_here w v) ws))
        → IsFirstHere w v (cond b (Some y) (find (fails_here w v) ws))
    by true so later = (so.0 refl, λ x less. passed x (omega (arith, turns.0, less)))
    by false so later = later (passed_more w v n y turns.0 passed (not_from_Decides false so refl))

pub found_here : (w : Words) (v : Value) → IsFirstHere w v (find (fails_here w v) order)
unfolding Turns Passed
found_here w v = found_word w v 0 order (refl, (refl, (refl, (refl, (refl, (refl, (refl, (refl, (refl, refl))))))))) (λ x less fails. absurd (omega arith))
