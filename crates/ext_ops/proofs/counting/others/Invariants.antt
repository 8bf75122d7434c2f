use Rattle.std.proofs.Common.{◌≡◌, ◌+◌, ◌≤◌, length, drop}
use Rattle.ext_ops.specs.Hook.{other_keys}
use Rattle.ext_ops.proofs.counting.others.Given as goal

abbrev pub invariant-loop-i : goal.invariant-loop-i
invariant-loop-i l =
    (l.others ≤ l.i) × (l.others + length (other_keys (drop l.i l.entries)) ≡ length (other_keys l.entries))
