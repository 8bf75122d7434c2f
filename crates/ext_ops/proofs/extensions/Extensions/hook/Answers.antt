use Rattle.doip_json.specs.Meaning.{value_of}
use Rattle.ext_ops.specs.Hook.{content_of, hook}
use Rattle.ext_ops.proofs.NameLemmas.{answered}
use Rattle.ext_ops.proofs.extensions.Extensions.hook.Goals as goal

pub returns : goal.returns
returns g c =
    let exts = c.args.self.now in
    answered (λ h. h.code) (λ code. hook code (value_of c.args.content.now)) exts.changing.items exts.hooks c.args.name.now c.in-Some.place c.index.result.now (content_of c.in_ok-answer.answer)
    exts.hooks_kept c.in-Some.ensures.some c.in-Some.ensures.within c.index.ensures c.in_ok-answer.ensures
