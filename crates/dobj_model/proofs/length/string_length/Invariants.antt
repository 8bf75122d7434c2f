use Rattle.std.proofs.Common.{◌≡◌, ◌+◌, ◌-◌, ◌^◌, min, length, take, flat_map}
use Rattle.doip_json.specs.Text.{escaped}
use Rattle.dobj_model.proofs.length.string_length.Given as goal

abbrev pub invariant-loop-byte : goal.invariant-loop-byte
invariant-loop-byte l = l.total ≡ min (length (flat_map escaped (take l.byte-index l.byte-items)) + 2) (2 ^ 64 - 1)
