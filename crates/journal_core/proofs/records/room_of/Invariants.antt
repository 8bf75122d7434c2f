use Rattle.std.proofs.Common.{◌≡◌, ◌^◌, ◌<◌, take}
use Rattle.std.specs.List.{All}
use Rattle.journal_core.specs.Journal.{room_for, told}
use Rattle.journal_core.specs.declared.records.Record.{Record}
use Rattle.journal_core.proofs.records.room_of.Given as goal

abbrev pub invariant-entries : goal.invariant-entries
invariant-entries l = record {
  room : l.room ≡ told (room_for (take l.index l.entries));
  times : All (λ (entry : Record). entry.stamp.time < 2 ^ 64) (take l.index l.entries);
}
