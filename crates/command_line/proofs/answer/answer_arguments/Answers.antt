use Rattle.std.proofs.Common.{◌∙◌, ap, sym, subst, List}
use Rattle.clap.specs.Words.{App, Row, Text, fault_of, matches_of}
use Rattle.command_line.specs.Command.{HasAnswer, IsInvalid, answer_in}
use Rattle.command_line.proofs.Shapes.{err_if}
use Rattle.command_line.proofs.answer.answer_arguments.Goals as goal

pub returns-in_err-values-clause-err : goal.returns-in_err-values-clause-err
returns-in_err-values-clause-err c =
    let words : List Text = c.args.words.now in
    err_if c.from_residual-in_err-values.result _ _ c.from_residual-in_err-values.ensures.1
    (λ e same. λ invalid command is. c.in_err-values.ensures.refused (subst IsInvalid same invalid)
    (ap (λ (a : App). fault_of a words) c.in_ok-command.ensures ∙ is.accepted))

pub returns-in-Some-clause-ok : goal.returns-in-Some-clause-ok
returns-in-Some-clause-ok c =
    let words : List Text = c.args.words.now in
    record {
      named = c.requires;
      accepted = sym (ap (λ (a : App). fault_of a words) c.in_ok-command.ensures) ∙ c.in_ok-values.ensures.accepted;
      values = subst (λ (rows : List Row). HasAnswer rows (answer_in c.in-Some.arguments))
          (c.in_ok-values.ensures.values ∙ ap (λ (a : App). matches_of a words) c.in_ok-command.ensures)
          c.in-Some.ensures.some;
    }
