use Rattle.ext_ops.proofs.HookLemmas.{settled, no_deeper}
use Rattle.ext_ops.proofs.laws.hooks_settle.Goals as goal

pub returns-clause-again : goal.returns-clause-again
returns-clause-again c = settled

pub returns-clause-depth : goal.returns-clause-depth
returns-clause-depth c = no_deeper
