use Rattle.std.proofs.Common.{length, ◌-◌}
use Rattle.ext_ops.proofs.WhiteLemmas.{Leads}
use Rattle.ext_ops.proofs.white.without_leading.Given as goal

abbrev pub invariant-loop-start : goal.invariant-loop-start
invariant-loop-start l = Leads l.text l.start

abbrev pub decreases-loop-start : goal.decreases-loop-start
decreases-loop-start l = length l.bytes - l.start
