use Rattle.std.proofs.Common.{option_map}
use Rattle.doip_json.specs.Value.{entries_from}
use Rattle.doip_json.specs.Meaning.{value_of}
use Rattle.doip_message.specs.Asked.{content_of, asked_of}
use Rattle.ext_ops.specs.Offered.{offered}
use Rattle.repo_step.specs.Asking.{properties}
use Rattle.repo_step.specs.Turn.{setting_in, state_in}
use Rattle.repo_step.specs.Step.{accepted}
use Rattle.repo_step.proofs.AnswerLemmas.{plan_meant, lent_means}
use Rattle.repo_step.proofs.step.requested.Goals as goal

pub returns : goal.returns
returns g c =
    let q = c.args.request in
    let setting = setting_in c.args.turn (offered c.args.extensions.now.operations c.args.extensions.now.hooks) in
    let s = state_in c.args.turn in
    plan_meant q.request_id c.accepted-made.result c.planned.result
    (accepted setting c.args.turn.brought s (properties c.get.result.now c.get-2.result.now (entries_from q.attributes)
    (option_map (λ v. value_of v.now) c.as_ref.result) (content_of q.input)))
    (accepted setting c.args.turn.brought s (asked_of q).properties) c.accepted-made.ensures
    (λ i. accepted setting c.args.turn.brought s (properties (c.get.ensures.text i) (c.get-2.ensures.text i)
    (entries_from q.attributes) (lent_means c.as_ref.result q.authentication c.as_ref.ensures.value i) (content_of q.input)))
    c.planned.ensures
