use Rattle.std.proofs.Common.{ap}
use Rattle.repo_state.specs.Rows.{rows_in}
use Rattle.repo_state.proofs.Named.{named_nothing}
use Rattle.repo_state.proofs.rows.Rows.new.Goals as goal

pub invariant_of-result : goal.invariant_of-result
invariant_of-result c = named_nothing _ (ap rows_in c.new.ensures.empty)
