use Rattle.store_files.proofs.Compacting.{ok, full, disk_fault}
use Rattle.store_files.proofs.compaction.compact_journal.Goals as goal

pub returns-in-Ok-compact : goal.returns-in-Ok-compact
returns-in-Ok-compact g c =
    ok g.D.Disk c.args.journal c.args.table.now.contents c.in-Ok.records c.in-Ok.ensures c.counter.ensures.consistent c.compaction_keeps_contents.ensures.changes c.compact.new.self
    c.in-Ok-compact.ensures.crash c.into_disk-in-Ok-compact.result c.into_disk-in-Ok-compact.ensures (g.D.Disk.state c.args.start.value) c.requires.opens
    c.in-Ok-compact.field-0 c.in-Ok-compact.ensures.cause c.in-Ok-compact.field-0.number c.in-Ok-compact.ensures.replaced c.room-room.result c.room-room.ensures.used c.room-room.ensures.area

pub returns-in-Err-Full : goal.returns-in-Err-Full
returns-in-Err-Full g c =
    full g.D.Disk c.args.journal c.args.table.now.contents c.in-Ok.records c.in-Ok.ensures c.counter.ensures.consistent c.compaction_keeps_contents.ensures.changes c.compact.new.self
    c.in-Err-Full.ensures.crash c.into_disk-in-Err-Full.result c.into_disk-in-Err-Full.ensures (g.D.Disk.state c.args.start.value) c.requires.opens
    c.in-Err-Full.field-0 c.in-Err-Full.ensures.cause c.in-Err-Full.used c.in-Err-Full.asked c.in-Err-Full.field-0-is

pub returns : goal.returns
returns g c =
    disk_fault g.D.Disk c.args.journal c.args.table.now.contents c.in-Ok.records c.in-Ok.ensures c.counter.ensures.consistent c.compaction_keeps_contents.ensures.changes c.compact.new.self
    c.in-Err-DiskFault.ensures.crash c.into_disk-in-Err-DiskFault.result c.into_disk-in-Err-DiskFault.ensures (g.D.Disk.state c.args.start.value) c.requires.opens
    c.in-Err-DiskFault.field-0 c.in-Err-DiskFault.ensures.cause c.in-Err-DiskFault.field-0-is
