use Rattle.std.proofs.Common.{subst, nat_eq}
use Rattle.std.specs.Cmp.Lexicographic.{pointwise}
use Rattle.std.specs.List.{IsDistinct}
use Rattle.std.specs.Map.{keys_of}
use Rattle.repo_state.proofs.MapLemmas.{rows_differ}
use Rattle.repo_state.proofs.rows.Rows.len.Goals as goal

pub returns-clause-distinct : goal.returns-clause-distinct
returns-clause-distinct c =
    subst (λ k. IsDistinct (pointwise nat_eq) (keys_of k.rows)) c.self.view_is (rows_differ _ c.len.ensures.unique)
