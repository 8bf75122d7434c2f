use Rattle.std.proofs.Common.{◌∙◌, ap}
use Rattle.std.specs.FinMap as finite
use Rattle.type_core.proofs.MapLemmas.{look_is, lent}
use Rattle.type_core.proofs.types.Types.get.Goals as goal

pub returns : goal.returns
returns c =
    lent c.get.result ∙ c.get.ensures.value ∙ look_is _ c.args.name.now
    ∙ ap (λ t. finite.get t.contents c.args.name.now) c.self.view_is
