use Rattle.std.proofs.Common.{◌≡◌, ◌*◌, ◌≤◌, length, take}
use Rattle.std.specs.List.{flat_map}
use Rattle.record_core.specs.Body.{payload}
use Rattle.record_core.proofs.writing.payloads_length.Given as goal

abbrev pub invariant-loop-i : goal.invariant-loop-i
invariant-loop-i l = record {
  length_is : l.total ≡ length (flat_map payload (take l.i l.items));
  bound : l.total ≤ 10000000007 * l.i;
}
