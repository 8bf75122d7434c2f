use Rattle.repo_state.proofs.Soundness.{nothing_consistent}
use Rattle.repo_state.proofs.table.Table.new.Goals as goal

pub invariant_of-result : goal.invariant_of-result
invariant_of-result c = nothing_consistent _ c.new.ensures
