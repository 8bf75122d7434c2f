use Rattle.std.proofs.lemmas.Result.{IfOk-weaker}
use Rattle.command_line.proofs.Shapes.{adds}
use Rattle.command_line.proofs.init.init_command.Goals as goal

pub returns : goal.returns
returns c =
    let one = adds _ _ _ _ _ c.in_ok-arg.ensures c.required.ensures.own c.in_ok-command_named.ensures c.required.ensures.rule in
    IfOk-weaker c.arg-2.result _ _ (λ new h. adds _ new _ _ _ h c.option_or.ensures.own one c.option_or.ensures.rule)
    c.arg-2.ensures
