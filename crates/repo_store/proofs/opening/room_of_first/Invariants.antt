use Rattle.std.proofs.Common.{◌≡◌, take}
use Rattle.journal_core.specs.Journal.{told, room_for}
use Rattle.repo_store.proofs.opening.room_of_first.Given as goal

abbrev pub invariant-records : goal.invariant-records
invariant-records l = l.room ≡ told (room_for (take l.index l.records))
