use Rattle.std.proofs.Common.{ap, sym, ◌∙◌}
use Rattle.doip_json.proofs.PlainLists.{entries_listed}
use Rattle.ext_ops.specs.declared.code.ExtCode.{ExtCode}
use Rattle.ext_ops.specs.Extended.{ext, answer_of}
use Rattle.ext_ops.specs.Offered.{code_at}
use Rattle.repo_step.specs.Rights.{no_right}
use Rattle.repo_step.proofs.ExtensionLemmas.{answer_given, answer_shown}
use Rattle.repo_step.proofs.operations.extended.extended.Goals as goal

pub returns-in-Some : goal.returns-in-Some
returns-in-Some g c = λ code known.
    let call = λ (code : ExtCode). ext code c.args.object.now c.args.arguments.now in
    answer_shown c.answered.result _ (no_right c.args.caller.now) (answer_of c.in-Some.answer) _ c.if-not-may.ensures
    (answer_given answer_of call c.in_ok-answer.field-0 c.in-Some.answer (code_at c.args.name.now c.args.extensions.now.operations) code
    c.in-Some.is c.in_ok-answer.ensures known
    ∙ ap (ext code c.args.object.now) (sym (entries_listed c.args.arguments.now)))
    c.answered.ensures
