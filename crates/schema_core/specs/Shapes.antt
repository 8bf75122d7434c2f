-- What the value of each word of a schema has to be, and what it states (JSON Schema draft 4, validation, section 5).
-- That numbers are integers, that `required` may be empty, and the word `cordra` are this project's own.
use Rattle.std.specs.Prelude.{ℕ, pos, List, [], ◌∷◌, codes, nat_eq, Bool, true, ◌||◌, is_some, is_none, Option, Some, None, option_map, option_and_then, find}
use Rattle.std.specs.Cmp.Lexicographic.{pointwise}
use Rattle.doip_json.specs.Value.{Value, truth, whole, list, Values, no_values, value, values_in}
use Rattle.doip_json.specs.Look.{field_of}
use Rattle.schema_core.specs.declared.kind.Kind.{Kind}
use Rattle.schema_core.specs.declared.kind.Kind.TheVariants as kind
use Rattle.schema_core.specs.declared.word.SchemaWord.{SchemaWord}
use Rattle.schema_core.specs.declared.word.SchemaWord.TheVariants as word
use Rattle.schema_core.specs.Names.{kind_name}
use Rattle.schema_core.specs.Failing.{number_in, string_in}

-- a list of what each item is read as, if each can be
abbrev pub all_in : {A : Type 0} → (Value → Option A) → Values → Option (List A)
all_in read no_values = Some []
all_in read (value v vs) = option_and_then (λ a. option_map (λ rest. a ∷ rest) (all_in read vs)) (read v)

-- what an array's items are read as
abbrev pub each_in : {A : Type 0} → (Value → Option A) → Value → Option (List A)
each_in read (list vs) = all_in read vs
each_in read v = None

-- the list, if it is not empty
abbrev pub unless_empty : {A : Type 0} → List A → Option (List A)
unless_empty [] = None
unless_empty (a ∷ rest) = Some (a ∷ rest)

-- the kinds, in the order of their names
abbrev pub kinds : List Kind
kinds = kind.Null ∷ kind.Boolean ∷ kind.Integer ∷ kind.Number ∷ kind.String ∷ kind.Array ∷ kind.Object ∷ []

-- the kind of this name
abbrev pub kind_called : List ℕ → Option Kind
kind_called name = find (λ k. pointwise nat_eq name (kind_name k)) kinds

-- the kind that a value names
abbrev pub kind_in : Value → Option Kind
kind_in v = option_and_then kind_called (string_in v)

-- `type` (5.5.2): a name, or an array of names that is not empty
abbrev pub kinds_in : Value → Option (List Kind)
kinds_in (list vs) = option_and_then unless_empty (all_in kind_in vs)
kinds_in v = option_map (λ k. k ∷ []) (kind_in v)

-- `enum` (5.5.1): an array that is not empty
abbrev pub members_in : Value → Option (List Value)
members_in (list vs) = unless_empty (values_in vs)
members_in v = None

-- `minLength` and its like (5.2.1, 5.2.2, 5.3.2, 5.3.3): a number from 0
abbrev pub count_in : Value → Option ℕ
count_in (whole (pos n)) = Some n
count_in v = None

-- `required` (5.4.3): an array of strings
abbrev pub names_in : Value → Option (List (List ℕ))
names_in = each_in string_in

-- `additionalProperties` (5.4.4): a boolean
abbrev pub truth_in : Value → Option Bool
truth_in (truth b) = Some b
truth_in v = None

-- what `cordra` says of references: the value at `type` and `handleReference`
abbrev pub handle_in : Value → Option Value
handle_in v = option_and_then (field_of (codes "handleReference")) (field_of (codes "type") v)

-- the types to which a reference leads: at `types` an array of strings that is not empty
abbrev pub types_in : Value → Option (List (List ℕ))
types_in handle = option_and_then unless_empty (option_and_then names_in (field_of (codes "types") handle))

-- `cordra`: the types to which a string refers, if it says so
abbrev pub reference_in : Value → Option (List (List ℕ))
reference_in v = option_and_then types_in (handle_in v)

-- whether `cordra` says nothing of references, or names types
abbrev pub is_reference : Value → Bool
is_reference v = is_none (handle_in v) || is_some (reference_in v)

-- whether the value has the shape of the word; a schema inside is looked at by itself
abbrev pub has_shape : SchemaWord → Value → Bool
has_shape word.Kind v = is_some (kinds_in v)
has_shape word.Enum v = is_some (members_in v)
has_shape word.Minimum v = is_some (number_in v)
has_shape word.Maximum v = is_some (number_in v)
has_shape word.MinLength v = is_some (count_in v)
has_shape word.MaxLength v = is_some (count_in v)
has_shape word.MinItems v = is_some (count_in v)
has_shape word.MaxItems v = is_some (count_in v)
has_shape word.Required v = is_some (names_in v)
has_shape word.AdditionalProperties v = is_some (truth_in v)
has_shape word.Properties v = true
has_shape word.Items v = true
