use Rattle.std.proofs.lemmas.Result.{IfOk-weaker}
use Rattle.command_line.proofs.Shapes.{adds}
use Rattle.command_line.proofs.answer.answer_command.Goals as goal

pub returns : goal.returns
returns c =
    let one = adds _ _ _ _ _ c.in_ok-arg.ensures c.required.ensures.own c.in_ok-command_named.ensures c.required.ensures.rule in
    let two = adds _ _ _ _ _ c.in_ok-arg-2.ensures c.option_or.ensures.own one c.option_or.ensures.rule in
    let three = adds _ _ _ _ _ c.in_ok-arg-3.ensures c.option_or-2.ensures.own two c.option_or-2.ensures.rule in
    let four = adds _ _ _ _ _ c.in_ok-arg-4.ensures c.option.ensures.own three c.option.ensures.rule in
    let five = adds _ _ _ _ _ c.in_ok-arg-5.ensures c.option-2.ensures.own four c.option-2.ensures.rule in
    IfOk-weaker c.arg-6.result _ _ (λ new h. adds _ new _ _ _ h c.option_or-3.ensures.own five c.option_or-3.ensures.rule)
    c.arg-6.ensures
