use Rattle.schema_core.proofs.OneFirst.{one_first}
use Rattle.schema_core.proofs.law.first_failures_are_one.Goals as goal

pub returns : goal.returns
returns c = one_first
