use Rattle.std.proofs.Common.{◌∙◌, ap, subst}
use Rattle.std.specs.FinMap as finite
use Rattle.repo_state.specs.Rows.{objects_in}
use Rattle.repo_state.specs.Sound.{AreNamed}
use Rattle.repo_state.proofs.MapLemmas.{look_is, lent}
use Rattle.repo_state.proofs.rows.Rows.get.Goals as goal

pub returns-clause-found : goal.returns-clause-found
returns-clause-found c =
    lent c.get.result ∙ c.get.ensures.value ∙ look_is _ c.args.id.now
    ∙ ap (λ k. finite.get (objects_in k.rows) c.args.id.now) c.self.view_is

pub returns-clause-named : goal.returns-clause-named
returns-clause-named c = subst (λ k. AreNamed (objects_in k.rows)) c.self.view_is c.self.invariant
