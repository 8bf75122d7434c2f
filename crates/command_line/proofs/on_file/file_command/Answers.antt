use Rattle.std.proofs.lemmas.Result.{IfOk-weaker}
use Rattle.command_line.proofs.Shapes.{adds}
use Rattle.command_line.proofs.on_file.file_command.Goals as goal

pub returns : goal.returns
returns c =
    IfOk-weaker c.arg.result _ _ (λ new h. adds _ new _ _ _ h c.required.ensures.own c.in_ok-command_named.ensures c.required.ensures.rule)
    c.arg.ensures
