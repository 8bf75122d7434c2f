use Rattle.std.proofs.Common.{◌∙◌, option_map}
use Rattle.std.proofs.lemmas.Result.{on_ok_weaker}
use Rattle.repo_step.proofs.ReplyLemmas.{segments_made}
use Rattle.repo_step.proofs.planned.append_with_elements.Goals as goal

pub returns : goal.returns
returns c =
    let id = option_map (λ id. id.now) c.args.request_id in
    on_ok_weaker c.end_parts.result
    (segments_made id c.args.object.now c.as_slice.result.now c.args.out.now.items c.begin_parts.new.out.items c.append_form.new.out.items
    c.append_elements.new.out.items c.end_parts.new.out.items c.in_ok-begin_parts.ensures c.in_ok-append_form.ensures
    c.in_ok-append_elements.ensures (c.as_slice.ensures.items ∙ c.elements.ensures) (c.parts_make_a_reply.ensures.segments id))
    c.end_parts.ensures
