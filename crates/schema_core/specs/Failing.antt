-- What fails a schema, and where (JSON Schema draft 4, validation, section 5).
use Rattle.std.specs.Prelude.{◌≡◌, ℕ, ◌<◌, ℤ, ◌<ℤ◌, List, [], ◌∷◌, length, Bool, true, false, IsTrue, Option, Some, None, IsSomeAnd, Any, Contains, chars, decimal, slice_get}
use Rattle.doip_json.specs.Value.{Value, null, truth, whole, text, list, table, Values, Entries, values_in, entries_in}
use Rattle.doip_json.specs.Look.{entry_of}
use Rattle.schema_core.specs.declared.kind.Kind.{Kind}
use Rattle.schema_core.specs.declared.kind.Kind.TheVariants as kind
use Rattle.schema_core.specs.declared.word.SchemaWord.{SchemaWord}
use Rattle.schema_core.specs.declared.word.SchemaWord.TheVariants as word
use Rattle.schema_core.specs.declared.words.Words.{Words}
use Rattle.schema_core.specs.Rules.{Rules, words_of, property_of, items_of}

-- whether a value is of a kind; every number here is an integer
abbrev pub has_kind : Value → Kind → Bool
has_kind null kind.Null = true
has_kind (truth b) kind.Boolean = true
has_kind (whole z) kind.Integer = true
has_kind (whole z) kind.Number = true
has_kind (text s) kind.String = true
has_kind (list vs) kind.Array = true
has_kind (table es) kind.Object = true
has_kind v k = false

-- the number, of a number
abbrev pub number_in : Value → Option ℤ
number_in (whole z) = Some z
number_in v = None

-- the bytes of a string
abbrev pub string_in : Value → Option (List ℕ)
string_in (text s) = Some s
string_in v = None

-- the items of an array
abbrev pub array_in : Value → Option (List Value)
array_in (list vs) = Some (values_in vs)
array_in v = None

-- the entries of an object
abbrev pub object_in : Value → Option Entries
object_in (table es) = Some es
object_in v = None

-- both are there, and the fact holds of them
abbrev pub AreBothAnd : {A B : Type 0} → Option A → Option B → (A → B → Type 0) → Type 0
AreBothAnd (Some a) (Some b) P = P a b
AreBothAnd o p P = ⊥

-- The words that a value fails by itself, a row for each. A word that speaks of what is inside has no such failure.
abbrev pub FailsHere : Words → Value → SchemaWord → Type 0
-- 5.5.2: it is of none of the kinds
FailsHere w v word.Kind = IsSomeAnd w.kinds (λ kinds. ¬ (Any (λ k. IsTrue (has_kind v k)) kinds))
-- 5.5.1: it equals none of the members
FailsHere w v word.Enum = IsSomeAnd w.members (λ members. ¬ (Contains members v))
-- 5.1.3: it is a number below
FailsHere w v word.Minimum = AreBothAnd w.minimum (number_in v) (λ least n. n <ℤ least)
-- 5.1.2: it is a number above
FailsHere w v word.Maximum = AreBothAnd w.maximum (number_in v) (λ most n. most <ℤ n)
-- 5.2.2: it is a string of fewer code points
FailsHere w v word.MinLength = AreBothAnd w.min_length (string_in v) (λ least s. length (chars s) < least)
-- 5.2.1: it is a string of more code points
FailsHere w v word.MaxLength = AreBothAnd w.max_length (string_in v) (λ most s. most < length (chars s))
-- 5.3.3: it is an array of fewer items
FailsHere w v word.MinItems = AreBothAnd w.min_items (array_in v) (λ least vs. length vs < least)
-- 5.3.2: it is an array of more items
FailsHere w v word.MaxItems = AreBothAnd w.max_items (array_in v) (λ most vs. most < length vs)
-- 5.4.3: it is an object that lacks one of the keys
FailsHere w v word.Required = IsSomeAnd (object_in v) (λ es. Any (λ key. entry_of key es ≡ None) w.required)
FailsHere w v word.AdditionalProperties = ⊥
FailsHere w v word.Properties = ⊥
FailsHere w v word.Items = ⊥

-- A step into a value: the number of the entry, ascending by keys, or of the item, from 0; and its name in a pointer.
abbrev pub Step : Type 0
Step = ℕ × List ℕ

-- the steps from a value to one inside it
abbrev pub Path : Type 0
Path = List Step

-- the entry of this number has the key and the value
abbrev pub HasEntry : Entries → ℕ → List ℕ → Value → Type 0
HasEntry es place key v = slice_get (entries_in es) place ≡ Some (key, v)

-- the item of this number is the value
abbrev pub HasItem : Values → ℕ → Value → Type 0
HasItem vs place v = slice_get (values_in vs) place ≡ Some v

-- A value fails a schema at the end of a path, by a word.
pub data Fails : Rules → Value → Path → SchemaWord → Type 0 where
  -- a word on the value itself
  by_itself : (r : Rules) (v : Value) (w : SchemaWord) → FailsHere (words_of r) v w → Fails r v [] w
  -- 5.4.4: a key outside `properties`, if `additionalProperties` is false
  by_key : (r : Rules) (es : Entries) (place : ℕ) (key : List ℕ) (v : Value)
      → HasEntry es place key v → property_of key r ≡ None → (words_of r).additional_properties ≡ false
      → Fails r (table es) ((place, key) ∷ []) word.AdditionalProperties
  -- 5.4.4: the value of a key fails the key's schema
  by_property : (r : Rules) (es : Entries) (place : ℕ) (key : List ℕ) (v : Value) (inner : Rules) (path : Path)
      (w : SchemaWord)
      → HasEntry es place key v → property_of key r ≡ Some inner → Fails inner v path w
      → Fails r (table es) ((place, key) ∷ path) w
  -- 5.3.1: an item fails the items' schema
  by_item : (r : Rules) (vs : Values) (place : ℕ) (v : Value) (inner : Rules) (path : Path) (w : SchemaWord)
      → HasItem vs place v → items_of r ≡ Some inner → Fails inner v path w
      → Fails r (list vs) ((place, decimal place) ∷ path) w

-- nothing fails
abbrev pub IsValid : Rules → Value → Type 0
IsValid r v = (path : Path) → (w : SchemaWord) → ¬ (Fails r v path w)
