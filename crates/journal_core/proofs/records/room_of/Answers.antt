use Rattle.std.proofs.Common.{◌≡◌, ◌^◌, ◌+◌, ◌<◌, take, length, Some, ap, arith, rules}
use Rattle.std.specs.Prelude.{slice_get}
use Rattle.std.proofs.lemmas.List.Elements.{All-same, All-push}
use Rattle.journal_core.specs.declared.records.Record.{Record}
use Rattle.journal_core.proofs.Written.{item_more, room_next}
use Rattle.journal_core.proofs.records.room_of.Goals as goal

pub entries-preserved : goal.entries-preserved
entries-preserved c =
    let rs = c.args.entries.now in
    let i = c.entries.index in
    let entry = c.item-entry.result.now in
    let within : c.entries.index < length rs = search rules in
    let is : slice_get rs i ≡ Some entry = c.item-entry.ensures in
    let time : entry.stamp.time < 2 ^ 64 = search rules in
    record {
      room = omega (arith, room_next rs i entry within is, c.entries.invariant.room, c.saturating_add-room.ensures, ap length c.get.ensures);
      times = All-same (λ (entry : Record). entry.stamp.time < 2 ^ 64) (take (i + 1) rs) _ (item_more rs i entry within is)
          (All-push (λ (entry : Record). entry.stamp.time < 2 ^ 64) (take i rs) entry c.entries.invariant.times time);
    }
