use Rattle.std.proofs.Common.{◌∙◌, ap}
use Rattle.std.specs.FinMap as finite
use Rattle.repo_state.specs.Rows.{objects_in}
use Rattle.repo_state.proofs.MapLemmas.{removed}
use Rattle.repo_state.proofs.Named.{named_removed, named_as}
use Rattle.repo_state.proofs.rows.Rows.remove.Goals as goal

pub returns : goal.returns
returns c =
    removed _ _ _ (c.swap_remove.ensures.updates.1, c.swap_remove.ensures.updates.3)
    ∙ ap (λ k. finite.remove (objects_in k.rows) c.args.id.now) c.self.view_is

pub invariant_of-self : goal.invariant_of-self
invariant_of-self c =
    named_as _ _ (removed _ _ _ (c.swap_remove.ensures.updates.1, c.swap_remove.ensures.updates.3))
    (named_removed _ c.args.id.now c.self.invariant)
