-- The first failure of a value, from what it fails by itself and from what is inside it.
use Rattle.std.proofs.Common.{◌≡◌, ◌≢◌, ℕ, zero, suc, ◌+◌, ◌<◌, List, [], ◌∷◌, ◌++◌, length, reverse, true, false, Option, Some, None, ◌⊎◌, inl, inr, true≢false, refl, sym, ap, ◌∙◌, subst, arith, decimal}
use Rattle.std.specs.List.{slice_get}
use Rattle.std.specs.Map.{keys_of, values_of}
use Rattle.std.proofs.lemmas.Bool.{cases_lt}
use Rattle.std.proofs.lemmas.Grind.{reverse_onto}
use Rattle.std.proofs.lemmas.Option.{slice_get_within}
use Rattle.doip_json.specs.Value.{Value, list, table, Values, Entries, values_from, entries_from, values_in, entries_in}
use Rattle.doip_json.proofs.Lists.{entry_read}
use Rattle.doip_json.proofs.PlainLists.{values_listed, entries_listed}
use Rattle.schema_core.specs.declared.word.SchemaWord.{SchemaWord}
use Rattle.schema_core.specs.declared.word.SchemaWord.TheVariants as word
use Rattle.schema_core.specs.Rules.{Rules, words_of, property_of, items_of}
use Rattle.schema_core.specs.Failing.{FailsHere, Fails, by_itself, by_key, by_property, by_item, IsValid, Path, HasEntry, HasItem}
use Rattle.schema_core.specs.First.{Before, IsFirst, IsFirstWord, IsFirstHere, IsFirstNames, names_of, turn_of}

-- nothing fails in the entries or items before place i
abbrev pub NoneBefore : Rules → Value → ℕ → Type 0
NoneBefore r v i = (j : ℕ) → (name : List ℕ) → (path : Path) → (w : SchemaWord) → j < i → ¬ (Fails r v ((j, name) ∷ path) w)

-- nothing fails at place i
abbrev pub NoneAt : Rules → Value → ℕ → Type 0
NoneAt r v i = (name : List ℕ) → (path : Path) → (w : SchemaWord) → ¬ (Fails r v ((i, name) ∷ path) w)

pub none_at_first : (r : Rules) (v : Value) → NoneBefore r v 0
none_at_first r v j name path w before fails = absurd (omega arith)

pub none_more : (r : Rules) (v : Value) (i : ℕ) → NoneBefore r v i → NoneAt r v i → NoneBefore r v (i + 1)
none_more r v i earlier here j name path w before fails = elim (cases_lt j i) [
  | inl less ↦ earlier j name path w less fails
  | inr late ↦ let same : j ≡ i = omega arith in here name path w (subst (λ n. Fails r v ((n, name) ∷ path) w) same fails)
]

-- ---- what a value fails by itself

pub fails_itself : (r : Rules) (v : Value) (w : SchemaWord) → Fails r v [] w → FailsHere (words_of r) v w
fails_itself r v w (by_itself _ _ _ fails) = fails

pub first_here : (r : Rules) (v : Value) (w : SchemaWord) → IsFirstHere (words_of r) v (Some w) → IsFirst r v [] w
first_here r v w first = record { fails = by_itself r v w first.0; least = least }
  where
    least : (q : Path) → (x : SchemaWord) → Fails r v q x → ¬ (Before q x [] w)
    least [] x fails before = first.1 x before (fails_itself r v x fails)
    least (s ∷ q) x fails before = before

pub first_itself : (r : Rules) (v : Value) (w : SchemaWord) → IsFirstHere (words_of r) v (Some w) → IsFirstWord r v (Some w)
first_itself r v w first = ([], first_here r v w first)

-- ---- what fails inside

-- the first failure is inside, at place i
pub first_inside : (r : Rules) (v : Value) (i : ℕ) (name : List ℕ) (path : Path) (w : SchemaWord)
    → IsFirstHere (words_of r) v None → NoneBefore r v i → Fails r v ((i, name) ∷ path) w
    → ((other : List ℕ) → (q : Path) → (x : SchemaWord) → Fails r v ((i, other) ∷ q) x → ¬ (Before q x path w))
    → IsFirst r v ((i, name) ∷ path) w
first_inside r v i name path w itself earlier fails here = record { fails = fails; least = least }
  where
    least : (q : Path) → (x : SchemaWord) → Fails r v q x → ¬ (Before q x ((i, name) ∷ path) w)
    least [] x other before = itself x (fails_itself r v x other)
    least (s ∷ q) x other (inl less) = earlier s.0 s.1 q x less other
    least (s ∷ q) x other (inr same) = here s.1 q x (subst (λ n. Fails r v ((n, s.1) ∷ q) x) same.0 other) same.1

-- nothing fails, neither the value itself nor at any place
pub none_fails : (r : Rules) (v : Value) (n : ℕ) → IsFirstHere (words_of r) v None → NoneBefore r v n
    → ((j : ℕ) → (name : List ℕ) → (path : Path) → (w : SchemaWord) → Fails r v ((j, name) ∷ path) w → j < n) → IsValid r v
none_fails r v n itself earlier within [] w fails = itself w (fails_itself r v w fails)
none_fails r v n itself earlier within (s ∷ path) w fails = earlier s.0 s.1 path w (within s.0 s.1 path w fails) fails

-- what is neither an array nor an object has nothing inside
pub plain_within : (r : Rules) (v : Value) → ((vs : Values) → v ≢ list vs) → ((es : Entries) → v ≢ table es)
    → (j : ℕ) → (name : List ℕ) → (path : Path) → (w : SchemaWord) → Fails r v ((j, name) ∷ path) w → j < 0
plain_within r v no_list no_table j name path w (by_key _ es _ _ u has none closed) = absurd (no_table es refl)
plain_within r v no_list no_table j name path w (by_property _ es _ _ u inner _ _ has there fails) = absurd (no_table es refl)
plain_within r v no_list no_table j name path w (by_item _ vs _ u inner _ _ has there fails) = absurd (no_list vs refl)

-- ---- objects

-- what a failure at an entry is
abbrev pub AtEntry : Rules → List ℕ → Value → Path → SchemaWord → Type 0
AtEntry r key v path w =
    ((property_of key r ≡ None) × ((words_of r).additional_properties ≡ false) × (path ≡ []) × (w ≡ word.AdditionalProperties))
    ⊎ ((inner : Rules) × (property_of key r ≡ Some inner) × Fails inner v path w)

pub same_pair : (k l : List ℕ) (u v : Value) (o : Option (List ℕ × Value)) → o ≡ Some (k, u) → o ≡ Some (l, v) → (k ≡ l) × (u ≡ v)
same_pair k l u v o one other =
    let same : ◌≡◌ {A = Option (List ℕ × Value)} (Some (k, u)) (Some (l, v)) = sym one ∙ other in
    let pairs : ◌≡◌ {A = List ℕ × Value} (k, u) (l, v) = cc in
    (ap (λ p. p.0) pairs, ap (λ p. p.1) pairs)

pub at_entry : (r : Rules) (es : Entries) (i : ℕ) (key : List ℕ) (v : Value) (name : List ℕ) (path : Path) (w : SchemaWord)
    → HasEntry es i key v → Fails r (table es) ((i, name) ∷ path) w → AtEntry r key v path w
at_entry r es i key v name path w has (by_key _ _ _ _ u read none closed) =
    let same = same_pair name key u v (slice_get (entries_in es) i) read has in
    inl (subst (λ k. property_of k r ≡ None) same.0 none, closed, refl, refl)
at_entry r es i key v name path w has (by_property _ _ _ _ u inner _ _ read there fails) =
    let same = same_pair name key u v (slice_get (entries_in es) i) read has in
    inr (inner, subst (λ k. property_of k r ≡ Some inner) same.0 there, subst (λ x. Fails inner x path w) same.1 fails)

within_entries : (r : Rules) (all : Entries) (es : List (List ℕ × Value)) (j : ℕ) (name : List ℕ) (path : Path) (w : SchemaWord)
    → entries_in all ≡ es → Fails r (table all) ((j, name) ∷ path) w → j < length es
within_entries r all es j name path w is (by_key _ _ _ _ u read none closed) = slice_get_within es j (name, u) (sym (ap (λ x. slice_get x j) is) ∙ read)
within_entries r all es j name path w is (by_property _ _ _ _ u inner _ _ read there fails) = slice_get_within es j (name, u) (sym (ap (λ x. slice_get x j) is) ∙ read)

pub entry_within : (r : Rules) (es : List (List ℕ × Value)) (j : ℕ) (name : List ℕ) (path : Path) (w : SchemaWord)
    → Fails r (table (entries_from es)) ((j, name) ∷ path) w → j < length es
entry_within r es j name path w fails = within_entries r (entries_from es) es j name path w (entries_listed es) fails

-- a key outside the properties, which may not be
pub first_key : (r : Rules) (es : Entries) (i : ℕ) (key : List ℕ) (v : Value) → IsFirstHere (words_of r) (table es) None → NoneBefore r (table es) i
    → HasEntry es i key v → property_of key r ≡ None → (words_of r).additional_properties ≡ false
    → IsFirst r (table es) ((i, key) ∷ []) word.AdditionalProperties
first_key r es i key v itself earlier has none closed =
    first_inside r (table es) i key [] word.AdditionalProperties itself earlier (by_key r es i key v has none closed)
    (λ other q x fails before. none_least q x (at_entry r es i key v other q x has fails) before)
  where
    none_least : (q : Path) (x : SchemaWord) → AtEntry r key v q x → Before q x [] word.AdditionalProperties → ⊥
    none_least [] x (inl same) before = let less : turn_of x < 9 = before in let at : turn_of x ≡ 9 = ap turn_of same.3 in omega arith
    none_least [] x (inr there) before = let e : None ≡ Some there.0 = sym none ∙ there.1 in cc
    none_least (s ∷ q) x here before = before

-- the first failure of an entry's value, by the schema of its key
pub first_property : (r : Rules) (es : Entries) (i : ℕ) (key : List ℕ) (v : Value) (inner : Rules) (path : Path) (w : SchemaWord)
    → IsFirstHere (words_of r) (table es) None → NoneBefore r (table es) i → HasEntry es i key v → property_of key r ≡ Some inner
    → IsFirst inner v path w → IsFirst r (table es) ((i, key) ∷ path) w
first_property r es i key v inner path w itself earlier has there first =
    first_inside r (table es) i key path w itself earlier (by_property r es i key v inner path w has there first.fails)
    (λ other q x fails before. least q x (at_entry r es i key v other q x has fails) before)
  where
    least : (q : Path) (x : SchemaWord) → AtEntry r key v q x → Before q x path w → ⊥
    least q x (inl none) before = let e : None ≡ Some inner = sym none.0 ∙ there in cc
    least q x (inr other) before =
        let e : Some other.0 ≡ Some inner = sym other.1 ∙ there in
        let same : other.0 ≡ inner = cc in
        first.least q x (subst (λ s. Fails s v q x) same other.2) before

-- an entry whose value is valid to the schema of its key
pub none_at_property : (r : Rules) (es : Entries) (i : ℕ) (key : List ℕ) (v : Value) (inner : Rules) → HasEntry es i key v
    → property_of key r ≡ Some inner → IsValid inner v → NoneAt r (table es) i
none_at_property r es i key v inner has there valid name path w fails = none (at_entry r es i key v name path w has fails)
  where
    none : AtEntry r key v path w → ⊥
    none (inl gone) = let e : None ≡ Some inner = sym gone.0 ∙ there in cc
    none (inr other) =
        let e : Some other.0 ≡ Some inner = sym other.1 ∙ there in
        let same : other.0 ≡ inner = cc in
        valid path w (subst (λ s. Fails s v path w) same other.2)

-- an entry outside the properties, which may be
pub none_at_key : (r : Rules) (es : Entries) (i : ℕ) (key : List ℕ) (v : Value) → HasEntry es i key v
    → property_of key r ≡ None → (words_of r).additional_properties ≡ true → NoneAt r (table es) i
none_at_key r es i key v has none allowed name path w fails = gone (at_entry r es i key v name path w has fails)
  where
    gone : AtEntry r key v path w → ⊥
    gone (inl closed) = true≢false (sym allowed ∙ closed.1)
    gone (inr there) = let e : None ≡ Some there.0 = sym none ∙ there.1 in cc

-- ---- arrays

pub at_item : (r : Rules) (vs : Values) (i : ℕ) (v : Value) (name : List ℕ) (path : Path) (w : SchemaWord) (inner : Rules)
    → HasItem vs i v → items_of r ≡ Some inner → Fails r (list vs) ((i, name) ∷ path) w → Fails inner v path w
at_item r vs i v name path w inner has there (by_item _ _ _ u other _ _ read also fails) =
    let items : Some u ≡ Some v = sym read ∙ has in
    let item : u ≡ v = cc in
    let schemas : Some other ≡ Some inner = sym also ∙ there in
    let schema : other ≡ inner = cc in
    subst (λ s. Fails s v path w) schema (subst (λ x. Fails other x path w) item fails)

within_items : (r : Rules) (all : Values) (vs : List Value) (j : ℕ) (name : List ℕ) (path : Path) (w : SchemaWord)
    → values_in all ≡ vs → Fails r (list all) ((j, name) ∷ path) w → j < length vs
within_items r all vs j name path w is (by_item _ _ _ u inner _ _ read there fails) = slice_get_within vs j u (sym (ap (λ x. slice_get x j) is) ∙ read)

pub item_within : (r : Rules) (vs : List Value) (j : ℕ) (name : List ℕ) (path : Path) (w : SchemaWord)
    → Fails r (list (values_from vs)) ((j, name) ∷ path) w → j < length vs
item_within r vs j name path w fails = within_items r (values_from vs) vs j name path w (values_listed vs) fails

-- without a schema of the items nothing fails in them
pub no_schema_within : (r : Rules) (vs : Values) → items_of r ≡ None → (j : ℕ) → (name : List ℕ) → (path : Path) → (w : SchemaWord)
    → Fails r (list vs) ((j, name) ∷ path) w → j < 0
no_schema_within r vs none j name path w (by_item _ _ _ u inner _ _ read there fails) = let e : None ≡ Some inner = sym none ∙ there in absurd (cc)

-- the first failure of an item
pub first_item : (r : Rules) (vs : Values) (i : ℕ) (v : Value) (inner : Rules) (path : Path) (w : SchemaWord)
    → IsFirstHere (words_of r) (list vs) None → NoneBefore r (list vs) i → HasItem vs i v → items_of r ≡ Some inner
    → IsFirst inner v path w → IsFirst r (list vs) ((i, decimal i) ∷ path) w
first_item r vs i v inner path w itself earlier has there first =
    first_inside r (list vs) i (decimal i) path w itself earlier (by_item r vs i v inner path w has there first.fails)
    (λ other q x fails before. first.least q x (at_item r vs i v other q x inner has there fails) before)

-- an item that is valid to the items' schema
pub none_at_item : (r : Rules) (vs : Values) (i : ℕ) (v : Value) (inner : Rules) → HasItem vs i v → items_of r ≡ Some inner
    → IsValid inner v → NoneAt r (list vs) i
none_at_item r vs i v inner has there valid name path w fails = valid path w (at_item r vs i v name path w inner has there fails)

-- ---- what the loops read

pub has_item : (vs : List Value) (i : ℕ) (v : Value) → slice_get vs i ≡ Some v → HasItem (values_from vs) i v
has_item vs i v is = ap (λ x. slice_get x i) (values_listed vs) ∙ is

pub has_entry : (es : List (List ℕ × Value)) (i : ℕ) (key : List ℕ) (v : Value) → slice_get (keys_of es) i ≡ Some key
    → slice_get (values_of es) i ≡ Some v → HasEntry (entries_from es) i key v
has_entry es i key v named is = ap (λ x. slice_get x i) (entries_listed es) ∙ entry_read es i key v named is

pub value_there : (es : List (List ℕ × Value)) (i : ℕ) (key : List ℕ) → slice_get (keys_of es) i ≡ Some key
    → (v : Value) × (slice_get (values_of es) i ≡ Some v)
value_there [] i key named = absurd (cc)
value_there (e ∷ es) zero key named = (e.1, refl)
value_there (e ∷ es) (suc i) key named = value_there es i key named

pub entry_there : (es : List (List ℕ × Value)) (i : ℕ) (key : List ℕ) → slice_get (keys_of es) i ≡ Some key
    → (v : Value) × HasEntry (entries_from es) i key v
entry_there es i key named =
    let there = value_there es i key named in (there.0, has_entry es i key there.0 named there.1)

-- ---- the names of the steps, the last one first

pub names_itself : (r : Rules) (v : Value) (w : SchemaWord) (names : List (List ℕ)) → IsFirstHere (words_of r) v (Some w)
    → names ≡ [] → IsFirstNames r v names
names_itself r v w names here none = ([], w, first_here r v w here, none)

pub name_added : (more names : List (List ℕ)) (name key : List ℕ) (i : ℕ) (path : Path) → more ≡ names ++ name ∷ [] → name ≡ key
    → names ≡ reverse (names_of path) → more ≡ reverse (names_of ((i, key) ∷ path))
name_added more names name key i path pushed same so = pushed ∙ (ap (λ x. x ++ name ∷ []) so ∙ (ap (λ n. reverse (names_of path) ++ n ∷ []) same ∙ sym (reverse_onto (names_of path) key [])))
