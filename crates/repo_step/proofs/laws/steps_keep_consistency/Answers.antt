use Rattle.repo_step.proofs.KeepLemmas.{step_keeps}
use Rattle.repo_step.proofs.laws.steps_keep_consistency.Goals as goal

pub returns : goal.returns
returns c = λ setting brought s message change consistent is.
    step_keeps c.changes_keep_consistency.ensures.put c.changes_keep_consistency.ensures.remove setting brought s consistent message change is
