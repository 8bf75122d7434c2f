use Rattle.std.proofs.Common.{map, ap, ◌∙◌}
use Rattle.repo_state.proofs.RecordLemmas.{next_row}
use Rattle.repo_state.proofs.compaction.objects_of.Goals as goal

pub rows-preserved : goal.rows-preserved
rows-preserved c =
    ap (map (λ o. (o.now.id, o.now))) c.in_ok-push.ensures.items
    ∙ next_row c.rows.objects.items c.args.rows.now.rows c.rows.place c.look.result c.rows.invariant c.look.ensures
