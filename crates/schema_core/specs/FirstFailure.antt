-- The first failure of a value, computed: a law says that it is the one of the relation `IsFirst`.
use Rattle.std.specs.Prelude.{ℕ, ◌+◌, List, [], ◌∷◌, length, Bool, true, false, not, ◌&&◌, nat_eq, nat_lt, Option, Some, None, option_map, option_and_then, is_some, find, chars, decimal}
use Rattle.std.specs.Bool.{beq}
use Rattle.std.specs.Ordering.{int_eq}
use Rattle.std.specs.Cmp.Lexicographic.{pointwise}
use Rattle.std.specs.Int.Signed.{lt_z}
use Rattle.std.specs.List.{list_any}
use Rattle.std.specs.Option.{option_or, option_map_or}
use Rattle.doip_json.specs.Value.{Value, null, truth, whole, text, list, table, Values, no_values, value, Entries, no_entries, entry}
use Rattle.doip_json.specs.Look.{entry_of}
use Rattle.schema_core.specs.declared.word.SchemaWord.{SchemaWord}
use Rattle.schema_core.specs.declared.word.SchemaWord.TheVariants as word
use Rattle.schema_core.specs.declared.words.Words.{Words}
use Rattle.schema_core.specs.Rules.{Rules, words_of, property_of, items_of}
use Rattle.schema_core.specs.Failing.{has_kind, number_in, string_in, array_in, object_in, Path}

-- whether two values are equal
abbrev mutual
  pub same_value : Value → Value → Bool
  same_value null null = true
  same_value (truth a) (truth b) = beq a b
  same_value (whole a) (whole b) = int_eq a b
  same_value (text a) (text b) = pointwise nat_eq a b
  same_value (list a) (list b) = same_values a b
  same_value (table a) (table b) = same_entries a b
  same_value a b = false

  pub same_values : Values → Values → Bool
  same_values no_values no_values = true
  same_values (value v vs) (value u us) = same_value v u && same_values vs us
  same_values vs us = false

  pub same_entries : Entries → Entries → Bool
  same_entries no_entries no_entries = true
  same_entries (entry k v es) (entry l u fs) = pointwise nat_eq k l && (same_value v u && same_entries es fs)
  same_entries es fs = false

-- both are there, and pass the test
abbrev pub both_pass : {A B : Type 0} → Option A → Option B → (A → B → Bool) → Bool
both_pass (Some a) (Some b) test = test a b
both_pass o p test = false

-- whether a value fails a word by itself, a row for each word
abbrev pub fails_here : Words → Value → SchemaWord → Bool
fails_here w v word.Kind = option_map_or (λ kinds. not (list_any (has_kind v) kinds)) w.kinds false
fails_here w v word.Enum = option_map_or (λ members. not (list_any (same_value v) members)) w.members false
fails_here w v word.Minimum = both_pass w.minimum (number_in v) (λ least n. lt_z n least)
fails_here w v word.Maximum = both_pass w.maximum (number_in v) (λ most n. lt_z most n)
fails_here w v word.MinLength = both_pass w.min_length (string_in v) (λ least s. nat_lt (length (chars s)) least)
fails_here w v word.MaxLength = both_pass w.max_length (string_in v) (λ most s. nat_lt most (length (chars s)))
fails_here w v word.MinItems = both_pass w.min_items (array_in v) (λ least vs. nat_lt (length vs) least)
fails_here w v word.MaxItems = both_pass w.max_items (array_in v) (λ most vs. nat_lt most (length vs))
fails_here w v word.Required =
    option_map_or (λ es. list_any (λ key. not (is_some (entry_of key es))) w.required) (object_in v) false
fails_here w v word.AdditionalProperties = false
fails_here w v word.Properties = false
fails_here w v word.Items = false

-- the words on the value itself, in the order in which they are tried
abbrev pub order : List SchemaWord
order =
    word.Kind ∷ word.Enum ∷ word.Minimum ∷ word.Maximum ∷ word.MinLength ∷ word.MaxLength ∷ word.MinItems
    ∷ word.MaxItems ∷ word.Required ∷ []

-- a path to what fails, and the word
abbrev pub Failure : Type 0
Failure = Path × SchemaWord

-- the first word that a value fails by itself
abbrev pub itself : Rules → Value → Option Failure
itself r v = option_map (λ w. ([], w)) (find (fails_here (words_of r) v) order)

-- a failure inside, seen from outside
abbrev pub within_step : ℕ → List ℕ → Option Failure → Option Failure
within_step place name = option_map (λ f. ((place, name) ∷ f.0, f.1))

-- the first failure at an entry: of its value by the schema of its key, or of a key that may not be there
abbrev pub at_key : Option Rules → Bool → (Rules → Option Failure) → Option Failure
at_key (Some inner) allowed judge = judge inner
at_key None true judge = None
at_key None false judge = Some ([], word.AdditionalProperties)

-- The first failure of a value: by itself, else inside, in the order of its entries or items.
abbrev mutual
  pub first_failure : Rules → Value → Option Failure
  first_failure r null = itself r null
  first_failure r (truth b) = itself r (truth b)
  first_failure r (whole z) = itself r (whole z)
  first_failure r (text s) = itself r (text s)
  first_failure r (list vs) = option_or (itself r (list vs)) (first_item (items_of r) 0 vs)
  first_failure r (table es) = option_or (itself r (table es)) (first_entry r 0 es)

  -- that of the items from a place on
  pub first_item : Option Rules → ℕ → Values → Option Failure
  first_item within place no_values = None
  first_item within place (value v vs) =
      option_or (within_step place (decimal place) (option_and_then (λ inner. first_failure inner v) within))
      (first_item within (place + 1) vs)

  -- that of the entries from a place on
  pub first_entry : Rules → ℕ → Entries → Option Failure
  first_entry r place no_entries = None
  first_entry r place (entry k v es) =
      option_or (within_step place k (at_key (property_of k r) (words_of r).additional_properties (λ inner. first_failure inner v)))
      (first_entry r (place + 1) es)
