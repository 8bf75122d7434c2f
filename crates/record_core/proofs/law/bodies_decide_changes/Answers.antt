use Rattle.record_core.proofs.Unique.{same_change}
use Rattle.record_core.proofs.law.bodies_decide_changes.Goals as goal

pub returns : goal.returns
returns c = same_change
