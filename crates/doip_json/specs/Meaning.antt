-- What a `Json` means.
use Rattle.std.specs.Prelude.{ℕ, List, map}
use Rattle.doip_json.specs.declared.leaf.Str.{Str}
use Rattle.doip_json.specs.declared.value.Json.{Json}
use Rattle.doip_json.specs.declared.value.Json.TheVariants.{Null, Truth, Whole, Text, Items, Table}
use Rattle.doip_json.specs.Value.{Value, null, truth, whole, text, list, table, values_from, entries_from}

-- the value that a `Json` stands for
abbrev pub value_of : Json → Value
value_of Null = null
value_of (Truth b) = truth b
value_of (Whole z) = whole z
value_of (Text s) = text s
value_of (Items vs) = list (values_from vs)
value_of (Table es) = table (entries_from es)

-- the keys and the meanings of an object's entries
abbrev pub pairs_of : List (Str × Json) → List (List ℕ × Value)
pairs_of = map (λ e. (e.0, value_of e.1))
