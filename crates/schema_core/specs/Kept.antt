-- What a schema's fields state.
use Rattle.std.specs.Prelude.{List, [], ◌∷◌, String, string_bytes, Option, Some, None, Box}
use Rattle.std.specs.declared.alloc.Global.{Global}
use Rattle.schema_core.specs.declared.schema.Schema.TheInside.{Inside}
use Rattle.schema_core.specs.Rules.{Rules, rules, Properties, no_properties, property, Within, anything, each}

-- the schemas of keys, each at the place of its key
abbrev pub keyed : List (String Global) → List Rules → Properties
keyed [] schemas = no_properties
keyed (key ∷ keys) [] = no_properties
keyed (key ∷ keys) (r ∷ schemas) = property (string_bytes key) r (keyed keys schemas)

-- the schema of the items
abbrev pub within_from : Option (Box Rules Global) → Within
within_from None = anything
within_from (Some b) = each b.value

-- what the fields state
abbrev pub stated : Inside → Rules
stated s = rules s.words (keyed s.keys.keys s.properties.items) (within_from s.items)
