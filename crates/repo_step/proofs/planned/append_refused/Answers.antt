use Rattle.std.proofs.Common.{◌∙◌, option_map}
use Rattle.std.proofs.lemmas.Result.{on_ok_weaker}
use Rattle.repo_step.specs.Refusals.{refusal_status, refusal_message}
use Rattle.repo_step.proofs.ReplyLemmas.{refused_made}
use Rattle.repo_step.proofs.planned.append_refused.Goals as goal

pub returns : goal.returns
returns c =
    let id = option_map (λ id. id.now) c.args.request_id in
    let why = c.args.refusal.now in
    on_ok_weaker c.append_refusal.result
    (refused_made id why c.status.result c.as_str.result.now c.args.out.now.items c.append_refusal.new.out.items
    c.status.ensures (c.as_str.ensures.value ∙ c.in_ok-message.ensures)
    (c.parts_make_a_reply.ensures.refusal id (refusal_status why) (refusal_message why)))
    c.append_refusal.ensures
