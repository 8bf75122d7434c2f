use Rattle.doip_message.specs.Reading.{request}
use Rattle.repo_step.specs.Step.{request_id_of, attempt}
use Rattle.repo_step.proofs.FixedLemmas.{plan_is_none}
use Rattle.repo_step.proofs.laws.no_reply_is_a_fixed_text.Goals as goal

pub returns : goal.returns
returns c = λ setting brought state message.
    plan_is_none (request_id_of (request message)) (attempt setting brought state (request message))
