use Rattle.std.proofs.Common.{◌∙◌, ap, nat_eq}
use Rattle.std.specs.List.{starts_with}
use Rattle.std.proofs.lemmas.Str.Pattern.{starts_text}
use Rattle.dobj_field.proofs.reach.passes_text.Goals as goal

pub returns-in-Begins : goal.returns-in-Begins
returns-in-Begins c =
    let said =
    starts_text c.starts_with.result c.get-in-Begins.result.now c.args.text.now c.starts_with.ensures.cases in
    rw c.in-Begins.is (said ∙ ap (λ word. starts_with nat_eq c.args.text.now word) c.get-in-Begins.ensures.text)
