use Rattle.std.proofs.Common.{◌∙◌, option_map}
use Rattle.std.proofs.lemmas.Result.{on_ok_weaker}
use Rattle.repo_step.specs.Information.{information}
use Rattle.repo_step.proofs.ReplyLemmas.{value_made}
use Rattle.repo_step.proofs.planned.append_information.Goals as goal

pub returns : goal.returns
returns c =
    let id = option_map (λ id. id.now) c.args.request_id in
    let config = c.args.config.now in
    let v = information config.service config.address config.port in
    on_ok_weaker c.end_value.result
    (value_made id v c.args.out.now.items c.begin_value.new.out.items c.extend_from_slice.new.self.items c.get.result.now c.end_value.new.out.items
    c.in_ok-begin_value.ensures c.in_ok-extend_from_slice.ensures.items (c.get.ensures ∙ config.informs) (c.parts_make_a_reply.ensures.value id v))
    c.end_value.ensures
