use Rattle.std.proofs.Common.{◌≡◌, ◌+◌, ◌-◌, ◌^◌, min, length, take, flat_map}
use Rattle.doip_json.specs.Text.{escaped}
use Rattle.doip_json.proofs.room.string_room.Given as goal

abbrev pub invariant-loop-byte : goal.invariant-loop-byte
invariant-loop-byte l = l.room ≡ min (length (flat_map escaped (take l.byte-index l.byte-items)) + 3) (2 ^ 64 - 1)
