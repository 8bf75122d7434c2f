use Rattle.std.proofs.Common.{◌∙◌, ap, string_bytes}
use Rattle.std.specs.FinMap as finite
use Rattle.type_core.proofs.MapLemmas.{inserted}
use Rattle.type_core.proofs.types.Types.put.Goals as goal

pub returns : goal.returns
returns c =
    inserted _ _ _ _ (c.in-Ok.ensures.updates.1, c.in-Ok.ensures.updates.3)
    ∙ ap (λ t. finite.insert t.contents (string_bytes c.args.name) c.args.content) c.self.view_is
