-- The schemas inside a schema are lower than the schema.
use Rattle.std.specs.Prelude.{◌≡◌, ◌+◌, ◌≤◌, List, [], ◌∷◌, length, String, Option, Some, None, Box, Vec}
use Rattle.std.proofs.Common.{arith}
use Rattle.std.specs.declared.alloc.Global.{Global}
use denote.Param.Weighed.{most}
use Rattle.schema_core.specs.declared.schema.Schema.TheInside.{Inside}
use Rattle.schema_core.specs.declared.schema.Schema.TheDeep.{deep-Schema}
use Rattle.schema_core.specs.declared.schema.Schema.TheShapes.{weighed-Schema-properties, weighed-Schema-items}
use Rattle.schema_core.specs.Rules.{Rules, height_of, highest_property, height_within}
use Rattle.schema_core.specs.Kept.{stated, keyed, within_from}

most_fall : (keys : List (String Global)) (rs : List Rules) → length keys ≡ length rs
    → most (λ r. height_of r + 1) rs ≤ highest_property (keyed keys rs)
most_fall [] [] even = omega arith
most_fall [] (r ∷ rs) even = absurd (omega arith)
most_fall (key ∷ keys) [] even = absurd (omega arith)
most_fall (key ∷ keys) (r ∷ rs) even = omega (arith, most_fall keys rs (omega arith))

properties_fall : (keys : List (String Global)) (v : Vec Rules Global) → length keys ≡ length v.items
    → weighed-Schema-properties.weight Rules (λ r. height_of r + 1) v ≤ highest_property (keyed keys v.items)
properties_fall keys v even = most_fall keys v.items even

items_fall : (o : Option (Box Rules Global))
    → weighed-Schema-items.weight Rules (λ r. height_of r + 1) o ≤ height_within (within_from o)
items_fall None = omega arith
items_fall (Some b) = omega arith

pub schemas_fall : (s : Inside) → length s.keys.keys ≡ length s.properties.items → deep-Schema s ≤ height_of (stated s)
schemas_fall s even = omega (arith, properties_fall s.keys.keys s.properties even, items_fall s.items)
