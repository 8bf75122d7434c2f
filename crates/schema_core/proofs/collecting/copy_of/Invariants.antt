use Rattle.std.proofs.Common.{◌≡◌, take}
use Rattle.schema_core.proofs.collecting.copy_of.Given as goal

abbrev pub invariant-loop-i : goal.invariant-loop-i
invariant-loop-i l = l.made ≡ take l.i l.names
