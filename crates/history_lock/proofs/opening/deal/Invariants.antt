use Rattle.std.proofs.Common.{◌≡◌, ◌-◌, ◌≤◌, [], vec_len, vec_capacity}
use Rattle.history_lock.specs.Rule.{opening_view}
use Rattle.history_lock.specs.Passes.{AreDealt}
use Rattle.history_lock.proofs.opening.deal.Given as goal

abbrev pub invariant-loop-dealt : goal.invariant-loop-dealt
invariant-loop-dealt g l = record {
  same : l.source.table_id ≡ l.initial.source.table_id;
  left : l.source.me ≡ (opening_view l.lock.table.shared.key.first.value (l.passes - l.dealt), []);
  count : vec_len l.waiting ≡ l.dealt;
  room : l.passes ≤ vec_capacity l.waiting;
  given : AreDealt (l.initial.source.table_id, l.initial.source.me.0.first) l.passes l.waiting.items;
}
