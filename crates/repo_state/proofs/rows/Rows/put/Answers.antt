use Rattle.std.proofs.Common.{◌∙◌, ap, sym, string_bytes}
use Rattle.std.specs.FinMap as finite
use Rattle.repo_state.specs.Rows.{objects_in}
use Rattle.repo_state.proofs.MapLemmas.{inserted}
use Rattle.repo_state.proofs.Named.{named_put, named_as}
use Rattle.repo_state.proofs.rows.Rows.put.Goals as goal

pub returns : goal.returns
returns c =
    inserted _ _ _ _ (c.in-Ok.ensures.updates.1, c.in-Ok.ensures.updates.3)
    ∙ ap (λ k. finite.insert (objects_in k.rows) (string_bytes c.args.id) c.args.object) c.self.view_is
    ∙ ap (λ t. finite.insert (objects_in c.args.self.now.rows) t c.args.object) c.requires.id

pub invariant_of-self : goal.invariant_of-self
invariant_of-self c =
    named_as _ _ (inserted _ _ _ _ (c.in-Ok.ensures.updates.1, c.in-Ok.ensures.updates.3))
    (named_put _ (string_bytes c.args.id) c.args.object (sym c.requires.id) c.self.invariant)
