-- What a schema states: plain data, which definitions compute on.
use Rattle.std.specs.Prelude.{ℕ, suc, max, List, [], nat_eq, true, if◌then◌else◌, Option, Some, None}
use Rattle.std.specs.Cmp.Lexicographic.{pointwise}
use Rattle.schema_core.specs.declared.words.Words.{Words}

mutual
  -- the words on the value itself, the schemas of an object's keys, and the schema of an array's items
  pub data Rules : Type 0 where
    rules : Words → Properties → Within → Rules

  -- the schemas under `properties`, each with its key
  pub data Properties : Type 0 where
    no_properties : Properties
    property : List ℕ → Rules → Properties → Properties

  -- the schema under `items`, if there is one
  pub data Within : Type 0 where
    anything : Within
    each : Rules → Within

-- the words on the value itself
abbrev pub words_of : Rules → Words
words_of (rules w ps it) = w

-- the schema of a key, if there is one
abbrev pub schema_at : List ℕ → Properties → Option Rules
schema_at k no_properties = None
schema_at k (property l r ps) = if pointwise nat_eq k l then Some r else schema_at k ps

-- the schema under `properties` of a key, if there is one
abbrev pub property_of : List ℕ → Rules → Option Rules
property_of k (rules w ps it) = schema_at k ps

-- the schema of the items, if there is one
abbrev pub schema_within : Within → Option Rules
schema_within anything = None
schema_within (each r) = Some r

-- the schema under `items`, if there is one
abbrev pub items_of : Rules → Option Rules
items_of (rules w ps it) = schema_within it

-- how deep schemas nest
abbrev mutual
  pub height_of : Rules → ℕ
  height_of (rules w ps it) = max (highest_property ps) (height_within it)

  pub highest_property : Properties → ℕ
  highest_property no_properties = 0
  highest_property (property k r ps) = max (suc (height_of r)) (highest_property ps)

  pub height_within : Within → ℕ
  height_within anything = 0
  height_within (each r) = suc (height_of r)

-- a schema that asks nothing
abbrev pub plain : Rules
plain = rules (record {
  kinds = None;
  members = None;
  minimum = None;
  maximum = None;
  min_length = None;
  max_length = None;
  min_items = None;
  max_items = None;
  required = [];
  additional_properties = true;
  reference = None;
}) no_properties anything
