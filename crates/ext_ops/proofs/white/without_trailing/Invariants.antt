use Rattle.ext_ops.proofs.WhiteLemmas.{Trails}
use Rattle.ext_ops.proofs.white.without_trailing.Given as goal

abbrev pub invariant-loop-end : goal.invariant-loop-end
invariant-loop-end l = Trails l.text l.end

abbrev pub decreases-loop-end : goal.decreases-loop-end
decreases-loop-end l = l.end
