use Rattle.std.proofs.Common.{ap, sym, ◌∙◌}
use Rattle.std.specs.List.{slice_get}
use Rattle.repo_state.proofs.Named.{row_at}
use Rattle.repo_state.proofs.rows.Rows.look.Goals as goal

pub returns : goal.returns
returns c =
    ap (λ k. slice_get k.rows c.args.place) (sym c.self.view_is)
    ∙ row_at _ c.args.place _ _ c.in-Some.ensures.entry c.in-Some.ensures.value c.self.invariant
