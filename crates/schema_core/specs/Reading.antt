-- What a JSON value states as a schema, and its first fault: the words of JSON Schema draft 4, validation, section 5.
-- Which words are refused, the order of faults and the word `cordra` are this project's own.
use Rattle.std.specs.Prelude.{◌≡◌, ℕ, List, [], ◌∷◌, codes, nat_eq, Bool, true, if◌then◌else◌, Option, Some, None, option_and_then, unwrap_or, find, ⊤}
use Rattle.std.specs.List.{list_any}
use Rattle.std.specs.Cmp.Lexicographic.{pointwise}
use Rattle.doip_json.specs.Value.{Value, null, truth, whole, text, list, table, Entries, no_entries, entry}
use Rattle.doip_json.specs.Look.{entry_of}
use Rattle.schema_core.specs.declared.fault.SchemaFault.{SchemaFault}
use Rattle.schema_core.specs.declared.fault.SchemaFault.TheVariants as fault
use Rattle.schema_core.specs.declared.word.SchemaWord.{SchemaWord}
use Rattle.schema_core.specs.declared.word.SchemaWord.TheVariants as word
use Rattle.schema_core.specs.declared.words.Words.{Words}
use Rattle.schema_core.specs.Names.{name_of}
use Rattle.schema_core.specs.Failing.{number_in}
use Rattle.schema_core.specs.Rules.{Rules, rules, Properties, no_properties, property, Within, anything, each, plain}
use Rattle.schema_core.specs.Shapes.{kinds_in, members_in, count_in, names_in, truth_in, reference_in, is_reference, has_shape}

-- the words that are used
abbrev pub used : List SchemaWord
used =
    word.Kind ∷ word.Enum ∷ word.Minimum ∷ word.Maximum ∷ word.MinLength ∷ word.MaxLength ∷ word.MinItems
    ∷ word.MaxItems ∷ word.Required ∷ word.AdditionalProperties ∷ word.Properties ∷ word.Items ∷ []

-- the word that a key spells
abbrev pub word_called : List ℕ → Option SchemaWord
word_called key = find (λ w. pointwise nat_eq key (name_of w)) used

-- the words that are refused
abbrev pub refused : List (List ℕ)
refused =
    codes "$ref" ∷ codes "allOf" ∷ codes "anyOf" ∷ codes "dependencies" ∷ codes "exclusiveMaximum"
    ∷ codes "exclusiveMinimum" ∷ codes "maxProperties" ∷ codes "minProperties" ∷ codes "multipleOf" ∷ codes "not"
    ∷ codes "oneOf" ∷ codes "pattern" ∷ codes "patternProperties" ∷ codes "uniqueItems" ∷ []

-- whether a key spells a word that is refused
abbrev pub is_refused : List ℕ → Bool
is_refused key = list_any (λ name. pointwise nat_eq key name) refused

-- the word that speaks of references
abbrev pub cordra : List ℕ
cordra = codes "cordra"

-- what the words on the value itself state, each by the value at its key
abbrev pub words_in : Entries → Words
words_in es = record {
  kinds = option_and_then kinds_in (entry_of (codes "type") es);
  members = option_and_then members_in (entry_of (codes "enum") es);
  minimum = option_and_then number_in (entry_of (codes "minimum") es);
  maximum = option_and_then number_in (entry_of (codes "maximum") es);
  min_length = option_and_then count_in (entry_of (codes "minLength") es);
  max_length = option_and_then count_in (entry_of (codes "maxLength") es);
  min_items = option_and_then count_in (entry_of (codes "minItems") es);
  max_items = option_and_then count_in (entry_of (codes "maxItems") es);
  required = unwrap_or (option_and_then names_in (entry_of (codes "required") es)) [];
  additional_properties = unwrap_or (option_and_then truth_in (entry_of (codes "additionalProperties") es)) true;
  reference = option_and_then reference_in (entry_of cordra es);
}

-- What a value states. What is no schema states nothing.
abbrev mutual
  pub rules_in : Value → Rules
  rules_in null = plain
  rules_in (truth b) = plain
  rules_in (whole z) = plain
  rules_in (text s) = plain
  rules_in (list vs) = plain
  rules_in (table es) = rules (words_in es) (properties_at es) (within_at es)

  -- the schemas at `properties`
  pub properties_at : Entries → Properties
  properties_at no_entries = no_properties
  properties_at (entry k v es) = if pointwise nat_eq (codes "properties") k then schemas_in v else properties_at es

  -- the schema of each key of an object
  pub schemas_in : Value → Properties
  schemas_in null = no_properties
  schemas_in (truth b) = no_properties
  schemas_in (whole z) = no_properties
  schemas_in (text s) = no_properties
  schemas_in (list vs) = no_properties
  schemas_in (table es) = each_schema es

  pub each_schema : Entries → Properties
  each_schema no_entries = no_properties
  each_schema (entry k v es) = property k (rules_in v) (each_schema es)

  -- the schema at `items`
  pub within_at : Entries → Within
  within_at no_entries = anything
  within_at (entry k v es) = if pointwise nat_eq (codes "items") k then each (rules_in v) else within_at es

-- the first of two faults
abbrev pub or_else : Option SchemaFault → Option SchemaFault → Option SchemaFault
or_else (Some f) later = Some f
or_else None later = later

-- a fault of shape, unless the test holds
abbrev pub unless_shaped : Bool → List ℕ → Option SchemaFault
unless_shaped b key = if b then None else Some (fault.Shape key)

-- the fault at a key that spells a used word, or none: of the schemas inside, or of the shape
abbrev pub used_fault : Option SchemaWord → List ℕ → Value → Option SchemaFault → Option SchemaFault
    → Option SchemaFault
used_fault None key v in_properties in_items = None
used_fault (Some word.Properties) key v in_properties in_items = in_properties
used_fault (Some word.Items) key v in_properties in_items = in_items
used_fault (Some w) key v in_properties in_items = unless_shaped (has_shape w v) key

-- The fault at a key. Every other word is ignored.
abbrev pub key_fault : List ℕ → Value → Option SchemaFault → Option SchemaFault → Option SchemaFault
key_fault key v in_properties in_items =
    if is_refused key then Some (fault.Word key) else
    (if pointwise nat_eq key cordra then unless_shaped (is_reference v) key else
    used_fault (word_called key) key v in_properties in_items)

-- The first fault of a schema: a schema is an object, its keys are looked at in ascending order, and a schema inside is
-- looked at when its word is.
abbrev mutual
  pub fault_of : Value → Option SchemaFault
  fault_of null = Some (fault.Shape (codes "schema"))
  fault_of (truth b) = Some (fault.Shape (codes "schema"))
  fault_of (whole z) = Some (fault.Shape (codes "schema"))
  fault_of (text s) = Some (fault.Shape (codes "schema"))
  fault_of (list vs) = Some (fault.Shape (codes "schema"))
  fault_of (table es) = first_fault es

  -- the first fault at a key
  pub first_fault : Entries → Option SchemaFault
  first_fault no_entries = None
  first_fault (entry k v es) = or_else (key_fault k v (properties_fault v) (fault_of v)) (first_fault es)

  -- the first fault of what `properties` has: it is an object of schemas
  pub properties_fault : Value → Option SchemaFault
  properties_fault null = Some (fault.Shape (codes "properties"))
  properties_fault (truth b) = Some (fault.Shape (codes "properties"))
  properties_fault (whole z) = Some (fault.Shape (codes "properties"))
  properties_fault (text s) = Some (fault.Shape (codes "properties"))
  properties_fault (list vs) = Some (fault.Shape (codes "properties"))
  properties_fault (table es) = schemas_fault es

  -- the first fault of the schemas of an object's keys
  pub schemas_fault : Entries → Option SchemaFault
  schemas_fault no_entries = None
  schemas_fault (entry k v es) = or_else (fault_of v) (schemas_fault es)

-- the fault at a key, with those of the schemas inside
abbrev pub fault_at : List ℕ → Value → Option SchemaFault
fault_at key v = key_fault key v (properties_fault v) (fault_of v)

-- out of memory, or the fault that there is
abbrev pub IsFaultOf : Option SchemaFault → SchemaFault → Type 0
IsFaultOf found fault.Memory = ⊤
IsFaultOf found (fault.Word name) = found ≡ Some (fault.Word name)
IsFaultOf found (fault.Shape name) = found ≡ Some (fault.Shape name)
