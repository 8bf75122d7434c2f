use Rattle.std.proofs.Common.{◌≡◌, map, take}
use Rattle.ext_ops.specs.Hook.{trimmed_entry}
use Rattle.ext_ops.proofs.trimming.trimmed_entries.Given as goal

abbrev pub invariant-loop-i : goal.invariant-loop-i
invariant-loop-i l = l.made ≡ map trimmed_entry (take l.i l.entries)
