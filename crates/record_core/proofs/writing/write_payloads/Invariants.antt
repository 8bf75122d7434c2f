use Rattle.std.proofs.Common.{◌≡◌, ◌++◌, take}
use Rattle.std.specs.List.{flat_map}
use Rattle.record_core.specs.Body.{payload}
use Rattle.record_core.proofs.writing.write_payloads.Given as goal

abbrev pub invariant-elements : goal.invariant-elements
invariant-elements l = l.out.items ≡ l.fn.out.items ++ flat_map payload (take l.i l.elements)
