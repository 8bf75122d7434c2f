-- What an array or an object contains is less deep than the array or the object.
use Rattle.std.specs.Prelude.{◌≤◌, max, List, [], ◌∷◌, map}
use Rattle.std.proofs.Common.{arith}
use denote.Param.Weighed.{most}
use Rattle.doip_json.specs.declared.value.Json.{Json}
use Rattle.doip_json.specs.declared.value.Json.TheVariants.{Null, Truth, Whole, Text, Items, Table}
use Rattle.doip_json.specs.declared.value.JsonList.TheDeep.{deep-Json}
use Rattle.doip_json.specs.declared.leaf.Str.{Str}
use Rattle.doip_json.specs.Value.{depth_of, deepest_value, deepest_entry, values_from, entries_from}
use Rattle.doip_json.specs.Meaning.{value_of, pairs_of}

deep-le : (j : Json) → deep-Json j ≤ depth_of (value_of j)
deep-le Null = omega arith
deep-le (Truth b) = omega arith
deep-le (Whole z) = omega arith
deep-le (Text s) = omega arith
deep-le (Items vs) = omega arith
deep-le (Table es) = omega arith

pub items_fall : (js : List Json) → max (most deep-Json js) 0 ≤ deepest_value (values_from (map value_of js))
items_fall [] = omega arith
items_fall (j ∷ js) = omega (arith, deep-le j, items_fall js)

pub entries_fall : (es : List (Str × Json))
    → max (most (λ e. max 0 (max (deep-Json e.1) 0)) es) 0 ≤ deepest_entry (entries_from (pairs_of es))
entries_fall [] = omega arith
entries_fall (e ∷ es) = omega (arith, deep-le e.1, entries_fall es)
