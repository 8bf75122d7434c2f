-- What a command is after one more argument, and what a fault that is handed on says.
use Rattle.std.proofs.Common.{◌≡◌, ◌∙◌, ap₂, Result, Ok, Err, IfErr, false}
use Rattle.std.specs.Result.{IsErrAnd}
use Rattle.clap.specs.Words.{AddsArg, App, Rule, app_of, rule_of, with_rule}
use Rattle.clap.specs.declared.builder.arg.Arg.{Arg}
use Rattle.clap.specs.declared.builder.command.Command.{Command}

-- one more argument
pub adds : (old new : Command) (a : Arg) (app : App) (r : Rule) → AddsArg old a new → a.global ≡ false
    → app_of old ≡ app → rule_of a ≡ r → app_of new ≡ with_rule app r
adds old new a app r h own is rule = h.shape own ∙ ap₂ with_rule is rule

-- what a `?` hands on
pub err_if : {X E : Type 0} (r : Result X E) (P Q : E → Type 0) → IsErrAnd r P → ((e : E) → P e → Q e) → IfErr r Q
err_if (Ok x) P Q h f = tt
err_if (Err e) P Q h f = f e h
