use Rattle.std.proofs.Common.{◌∙◌, ap, sym, subst, codes, List, option_copied}
use Rattle.clap.specs.Words.{App, Text, first_of, fault_of, matches_of}
use Rattle.command_line.specs.Command.{IsInvalid}
use Rattle.command_line.proofs.Shapes.{err_if}
use Rattle.command_line.proofs.on_file.file_arguments.Goals as goal

pub returns-in_err-values-clause-err : goal.returns-in_err-values-clause-err
returns-in_err-values-clause-err c =
    let words : List Text = c.args.words.now in
    err_if c.from_residual-in_err-values.result _ _ c.from_residual-in_err-values.ensures.1
    (λ e same. λ invalid command is. c.in_err-values.ensures.refused (subst IsInvalid same invalid)
    (ap (λ (a : App). fault_of a words) c.in_ok-command.ensures ∙ is.accepted))

pub returns-in-Some-clause-ok : goal.returns-in-Some-clause-ok
returns-in-Some-clause-ok c =
    let words : List Text = c.args.words.now in
    record {
      named = c.requires;
      accepted = sym (ap (λ (a : App). fault_of a words) c.in_ok-command.ensures) ∙ c.in_ok-values.ensures.accepted;
      value = ap (first_of (codes "file")) (sym (c.in_ok-values.ensures.values
          ∙ ap (λ (a : App). matches_of a words) c.in_ok-command.ensures)) ∙ sym c.text.ensures
          ∙ ap option_copied c.in-Some.is;
    }
