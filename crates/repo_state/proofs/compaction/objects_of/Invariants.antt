use Rattle.std.proofs.Common.{◌≡◌, map, take}
use Rattle.repo_state.proofs.compaction.objects_of.Given as goal

-- the objects of the rows before this place
abbrev pub invariant-rows : goal.invariant-rows
invariant-rows l = map (λ o. (o.now.id, o.now)) l.objects.items ≡ take l.place l.rows.rows
