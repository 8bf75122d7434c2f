-- No value has two first failures.
use Rattle.std.proofs.Common.{◌≡◌, ℕ, List, [], ◌∷◌, get_or, Some, None, ◌⊎◌, inl, inr, refl, sym, ap, ap₂, ◌∙◌, subst, arith, decimal}
use Rattle.std.proofs.lemmas.Bool.{cases_lt}
use Rattle.std.specs.List.{slice_get}
use Rattle.doip_json.specs.Value.{Value, list, table, Values, Entries, entries_in}
use Rattle.schema_core.specs.declared.word.SchemaWord.{SchemaWord}
use Rattle.schema_core.specs.declared.word.SchemaWord.TheVariants as word
use Rattle.schema_core.specs.Rules.{Rules, property_of}
use Rattle.schema_core.specs.Failing.{Fails, by_key, by_property, by_item, Step, Path, HasEntry}
use Rattle.schema_core.specs.First.{Before, IsFirst, turn_of}
use Rattle.schema_core.specs.Reading.{used}
use Rattle.schema_core.proofs.FirstLemmas.{AtEntry, at_entry, at_item, same_pair}

-- the steps go to the same places
abbrev SamePlaces : Path → Path → Type 0
SamePlaces [] [] = Unit {0}
SamePlaces [] (t ∷ q) = ⊥
SamePlaces (s ∷ p) [] = ⊥
SamePlaces (s ∷ p) (t ∷ q) = (s.0 ≡ t.0) × SamePlaces p q

abbrev Ordered : Path → SchemaWord → Path → SchemaWord → Type 0
Ordered p w q x = Before p w q x ⊎ (Before q x p w ⊎ (SamePlaces p q × (turn_of w ≡ turn_of x)))

further : (s t : Step) (p q : Path) (w x : SchemaWord) → s.0 ≡ t.0 → Ordered p w q x → Ordered (s ∷ p) w (t ∷ q) x
further s t p q w x same (inl before) = inl (inr (same, before))
further s t p q w x same (inr (inl after)) = inr (inl (inr (sym same, after)))
further s t p q w x same (inr (inr both)) = inr (inr ((same, both.0), both.1))

-- one of two failures comes before the other, or they are at the same places by words of one turn
compared : (p : Path) (w : SchemaWord) (q : Path) (x : SchemaWord) → Ordered p w q x
compared [] w [] x =
    elim (cases_lt (turn_of w) (turn_of x)) [
      | inl less ↦ inl less
      | inr later ↦ elim (cases_lt (turn_of x) (turn_of w)) [
        | inl more ↦ inr (inl more)
        | inr equal ↦ inr (inr (tt, omega arith))
      ]
    ]
compared [] w (t ∷ q) x = inl tt
compared (s ∷ p) w [] x = inr (inl tt)
compared (s ∷ p) w (t ∷ q) x =
    elim (cases_lt s.0 t.0) [
      | inl less ↦ inl (inl less)
      | inr later ↦ elim (cases_lt t.0 s.0) [
        | inl more ↦ inr (inl (inl more))
        | inr equal ↦ further s t p q w x (omega arith) (compared p w q x)
      ]
    ]

-- a word from its turn
word_back : (w : SchemaWord) → get_or used (turn_of w) word.Kind ≡ w
word_back word.Kind = refl
word_back word.Enum = refl
word_back word.Minimum = refl
word_back word.Maximum = refl
word_back word.MinLength = refl
word_back word.MaxLength = refl
word_back word.MinItems = refl
word_back word.MaxItems = refl
word_back word.Required = refl
word_back word.AdditionalProperties = refl
word_back word.Properties = refl
word_back word.Items = refl

pub same_word : (w x : SchemaWord) → turn_of w ≡ turn_of x → w ≡ x
same_word w x same = sym (word_back w) ∙ (ap (λ n. get_or used n word.Kind) same ∙ word_back x)

none_after : (q : Path) → SamePlaces [] q → [] ≡ q
none_after [] same = refl
none_after (t ∷ q) same = absurd same

-- the name of the step to an entry is its key
entry_name : (r : Rules) (es : Entries) (i : ℕ) (key : List ℕ) (v : Value) (name : List ℕ) (path : Path) (w : SchemaWord)
    → HasEntry es i key v → Fails r (table es) ((i, name) ∷ path) w → key ≡ name
entry_name r es i key v name path w has (by_key _ _ _ _ u read none closed) = (same_pair key name v u (slice_get (entries_in es) i) has read).0
entry_name r es i key v name path w has (by_property _ _ _ _ u inner _ _ read there fails) = (same_pair key name v u (slice_get (entries_in es) i) has read).0

-- the name of the step to an item is its number in digits
item_name : (r : Rules) (vs : Values) (i : ℕ) (name : List ℕ) (path : Path) (w : SchemaWord) → Fails r (list vs) ((i, name) ∷ path) w → name ≡ decimal i
item_name r vs i name path w (by_item _ _ _ u inner _ _ read there fails) = refl

-- failures of one value at the same places have the same steps
Again : Path → Type 0
Again p = (r : Rules) → (v : Value) → (q : Path) → (w x : SchemaWord) → Fails r v p w → Fails r v q x → SamePlaces p q → p ≡ q

same_entry : (r : Rules) (v : Value) (key : List ℕ) (inner : Rules) (p q : Path) (w x : SchemaWord) → Again p → property_of key r ≡ Some inner
    → Fails inner v p w → AtEntry r key v q x → SamePlaces p q → p ≡ q
unfolding Again
same_entry r v key inner p q w x again there fails (inl none) same = let e : None ≡ Some inner = sym none.0 ∙ there in absurd (cc)
same_entry r v key inner p q w x again there fails (inr other) same =
    let e : Some other.0 ≡ Some inner = sym other.1 ∙ there in
    let one : other.0 ≡ inner = cc in
    again inner v q w x fails (subst (λ s. Fails s v q x) one other.2) same

same_step : (r : Rules) (v : Value) (i : ℕ) (name other : List ℕ) (p q : Path) (w x : SchemaWord) → Again p → Fails r v ((i, name) ∷ p) w
    → Fails r v ((i, other) ∷ q) x → SamePlaces p q → ◌≡◌ {A = Path} ((i, name) ∷ p) ((i, other) ∷ q)
unfolding Again
same_step r v i name other p q w x again (by_key _ es _ _ u read none closed) fails same =
    ap₂ (λ n path. (i, n) ∷ path) (entry_name r es i name u other q x read fails) (none_after q same)
same_step r v i name other p q w x again (by_property _ es _ _ u inner _ _ read there inside) fails same =
    ap₂ (λ n path. (i, n) ∷ path) (entry_name r es i name u other q x read fails)
    (same_entry r u name inner p q w x again there inside (at_entry r es i name u other q x read fails) same)
same_step r v i name other p q w x again (by_item _ vs _ u inner _ _ read there inside) fails same =
    ap₂ (λ n path. (i, n) ∷ path) (sym (item_name r vs i other q x fails))
    (again inner u q w x inside (at_item r vs i u other q x inner read there fails) same)

same_path : (p : Path) → Again p
unfolding Again
same_path [] r v q w x fails other same = none_after q same
same_path (s ∷ p) r v [] w x fails other same = absurd same
same_path (s ∷ p) r v (t ∷ q) w x fails other same =
    same_step r v s.0 s.1 t.1 p q w x (same_path p) fails (subst (λ n. Fails r v ((n, t.1) ∷ q) x) (sym same.0) other) same.1
    ∙ ap (λ n. (n, t.1) ∷ q) same.0

-- the first failure is one
pub one_first : (r : Rules) → (v : Value) → (p q : Path) → (w x : SchemaWord) → IsFirst r v p w → IsFirst r v q x → (p ≡ q) × (w ≡ x)
unfolding Again
one_first r v p q w x one other = by_order (compared p w q x)
  where
    by_order : Ordered p w q x → (p ≡ q) × (w ≡ x)
    by_order (inl before) = absurd (other.least p w one.fails before)
    by_order (inr (inl after)) = absurd (one.least q x other.fails after)
    by_order (inr (inr both)) = (same_path p r v q w x one.fails other.fails both.0, same_word w x both.1)
