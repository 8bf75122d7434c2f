use Rattle.std.proofs.Common.{ap, length, arith}
use Rattle.repo_store.proofs.Compacting.{room_more}
use Rattle.repo_store.proofs.compaction.room_of_list.Goals as goal

pub records-preserved : goal.records-preserved
records-preserved c = omega (arith, room_more c.args.list.now c.records.place _ c.in_ok-record.ensures, c.records.invariant, c.saturating_add-room.ensures, ap length c.get.ensures)
