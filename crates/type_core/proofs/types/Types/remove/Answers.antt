use Rattle.std.proofs.Common.{◌∙◌, ap}
use Rattle.std.specs.FinMap as finite
use Rattle.type_core.proofs.MapLemmas.{removed}
use Rattle.type_core.proofs.types.Types.remove.Goals as goal

pub returns : goal.returns
returns c =
    removed _ _ _ (c.swap_remove.ensures.updates.1, c.swap_remove.ensures.updates.3)
    ∙ ap (λ t. finite.remove t.contents c.args.name.now) c.self.view_is
