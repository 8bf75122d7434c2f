use Rattle.ext_ops.specs.Extended.{answer_of, ext}
use Rattle.ext_ops.proofs.NameLemmas.{answered}
use Rattle.ext_ops.proofs.extensions.Extensions.call.Goals as goal

pub returns : goal.returns
returns g c =
    let exts = c.args.self.now in
    answered (λ a. a.code) (λ code. ext code c.args.object.now c.args.arguments.now) exts.answering.items exts.operations c.args.operation.now c.in-Some.place c.index.result.now (answer_of c.in_ok-answer.answer)
    exts.operations_kept c.in-Some.ensures.some c.in-Some.ensures.within c.index.ensures c.in_ok-answer.ensures
