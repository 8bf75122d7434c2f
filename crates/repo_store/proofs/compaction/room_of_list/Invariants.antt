use Rattle.std.proofs.Common.{◌≡◌, map, take}
use Rattle.journal_core.specs.Journal.{told, room_for}
use Rattle.repo_store.specs.Compaction.{recorded}
use Rattle.repo_store.proofs.compaction.room_of_list.Given as goal

abbrev pub invariant-records : goal.invariant-records
invariant-records l = l.room ≡ told (room_for (map recorded (take l.place l.list)))
