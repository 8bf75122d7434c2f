-- What the private writer and reader hold, as plain data.
use Rattle.std.specs.Prelude.{ℕ, List, Option, None, Some, option_map}
use Rattle.std.specs.Ordering.{nat_cmp}
use Rattle.std.specs.Cmp.Lexicographic.{slice_cmp}
use Rattle.std.specs.BTreeMap.{insert_entry}
use Rattle.doip_json.specs.Value.{Value}
use Rattle.doip_json.specs.Meaning.{value_of}
use Rattle.doip_json.specs.Sound.{IsSound}
use Rattle.doip_exchange.specs.declared.reading.Fields.{Fields}
use Rattle.doip_exchange.specs.Answer.{ReplyValues}

-- entries with the value at the key, if there is one
abbrev pub put_some : List (List ℕ × Value) → List ℕ → Option Value → List (List ℕ × Value)
put_some entries key None = entries
put_some entries key (Some v) = insert_entry (slice_cmp nat_cmp) entries key v

-- the properties that were taken out of a first segment
abbrev pub view_of : Fields → ReplyValues
view_of f = record {
  request_id = option_map value_of f.request_id;
  status = option_map value_of f.status;
  attributes = option_map value_of f.attributes;
  output = option_map value_of f.output;
}

-- a value that is there is sound
abbrev pub IsSoundIf : Option Value → Type 0
IsSoundIf None = Unit {0}
IsSoundIf (Some v) = IsSound v
