use Rattle.store_files.proofs.Migrating.{not_replayed, ok, full, disk_fault}
use Rattle.store_files.proofs.migration.migrate_records.Goals as goal

pub returns-in-Err : goal.returns-in-Err
returns-in-Err g c =
    not_replayed g.D.Disk c.args.journal c.args.records.now (g.D.Disk.state c.args.start.value) c.requires.opens c.in-Err.fault c.in-Err.ensures c.into_disk.result c.side.result c.area.result
    c.replay_fault-fault.result c.into_disk.ensures c.side.ensures c.area.ensures c.replay_fault-fault.ensures

pub returns-in-Ok-migrate : goal.returns-in-Ok-migrate
returns-in-Ok-migrate g c =
    ok g.D.Disk c.args.journal c.args.records.now (g.D.Disk.state c.args.start.value) c.requires.opens c.in-Ok.table.contents c.in-Ok.ensures c.in-Ok-records.list c.in-Ok-records.ensures
    c.counter.ensures.consistent c.compaction_keeps_contents.ensures.changes c.in-Ok-migrate.journal c.in-Ok-migrate.ensures.migrated c.into_disk-in-Ok-migrate.result c.into_disk-in-Ok-migrate.ensures
    c.count-objects.result c.count-objects.ensures

pub returns-in-Full : goal.returns-in-Full
returns-in-Full g c =
    full g.D.Disk c.args.journal c.args.records.now (g.D.Disk.state c.args.start.value) c.requires.opens c.in-Ok.table.contents c.in-Ok.ensures c.in-Ok-records.list c.in-Ok-records.ensures
    c.counter.ensures.consistent c.compaction_keeps_contents.ensures.changes c.in-Err-migrate.disk c.in-Err-migrate.fault c.in-Err-migrate.ensures.refused c.in-Full.used c.in-Full.asked c.in-Full.is

pub returns : goal.returns
returns g c =
    disk_fault g.D.Disk c.args.journal c.args.records.now (g.D.Disk.state c.args.start.value) c.requires.opens c.in-Ok.table.contents c.in-Ok.ensures c.in-Ok-records.list c.in-Ok-records.ensures
    c.counter.ensures.consistent c.compaction_keeps_contents.ensures.changes c.in-Err-migrate.disk c.in-Err-migrate.fault c.in-Err-migrate.ensures.refused c.in-DiskFault.is
