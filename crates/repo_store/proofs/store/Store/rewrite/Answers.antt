use Rattle.repo_store.proofs.Compacting.{ok_rewrites, ok_compacts, full_rewrites, full_cause, fault_rewrites, fault_cause}
use Rattle.repo_store.proofs.store.Store.rewrite.Goals as goal

pub returns-in-Ok-clause-rewrites : goal.returns-in-Ok-clause-rewrites
returns-in-Ok-clause-rewrites g c =
    let before = c.args.self.now in
    ok_rewrites g.D.Disk before.table.contents (g.C.Clock.given before.clock) c.args.records.now c.requires.records c.table.ensures.consistent c.compaction_keeps_contents.ensures.changes _ c.compact.new.self
    before.journal c.in-Some.is before.closed c.requires.not_closed c.in-Ok.ensures.crash c.in-Ok.field-0 c.in-Ok.ensures.cause c.in-Ok.field-0.number c.in-Ok.ensures.replaced

pub returns-in-Ok-clause-compacted : goal.returns-in-Ok-clause-compacted
returns-in-Ok-clause-compacted g c =
    let before = c.args.self.now in
    ok_compacts g.D.Disk before.table.contents (g.C.Clock.given before.clock) c.args.records.now c.requires.records c.table.ensures.consistent c.compaction_keeps_contents.ensures.changes _ c.compact.new.self
    before.journal c.in-Some.is before.closed c.requires.not_closed c.in-Ok.ensures.crash c.in-Ok.field-0 c.in-Ok.ensures.cause c.in-Ok.field-0.number c.in-Ok.ensures.replaced c.room.result c.room.ensures.used c.room.ensures.area

pub returns-in-Err-Full-clause-rewrites : goal.returns-in-Err-Full-clause-rewrites
returns-in-Err-Full-clause-rewrites g c =
    let before = c.args.self.now in
    full_rewrites g.D.Disk before.table.contents (g.C.Clock.given before.clock) c.args.records.now c.requires.records c.table.ensures.consistent c.compaction_keeps_contents.ensures.changes _ c.compact.new.self
    before.journal c.in-Some.is before.closed c.requires.not_closed c.in-Err-Full.ensures.crash c.in-Err-Full.field-0 c.in-Err-Full.ensures.cause c.in-Err-Full.used c.in-Err-Full.asked c.in-Err-Full.field-0-is

pub returns-in-Err-Full-clause-cause : goal.returns-in-Err-Full-clause-cause
returns-in-Err-Full-clause-cause g c =
    let before = c.args.self.now in
    full_cause g.D.Disk before.table.contents (g.C.Clock.given before.clock) c.args.records.now c.requires.records c.table.ensures.consistent c.compaction_keeps_contents.ensures.changes _ c.compact.new.self
    before.journal c.in-Some.is before.closed c.requires.not_closed c.in-Err-Full.ensures.crash c.in-Err-Full.field-0 c.in-Err-Full.ensures.cause c.in-Err-Full.used c.in-Err-Full.asked c.in-Err-Full.field-0-is

pub returns-in-Err-DiskFault-clause-rewrites : goal.returns-in-Err-DiskFault-clause-rewrites
returns-in-Err-DiskFault-clause-rewrites g c =
    let before = c.args.self.now in
    fault_rewrites g.D.Disk before.table.contents (g.C.Clock.given before.clock) c.args.records.now c.requires.records c.table.ensures.consistent c.compaction_keeps_contents.ensures.changes _ c.compact.new.self
    before.journal c.in-Some.is before.closed c.requires.not_closed c.in-Err-DiskFault.ensures.crash c.in-Err-DiskFault.field-0 c.in-Err-DiskFault.ensures.cause c.in-Err-DiskFault.field-0-is c.fault_count.result c.fault_count.ensures

pub returns-in-Err-DiskFault-clause-cause : goal.returns-in-Err-DiskFault-clause-cause
returns-in-Err-DiskFault-clause-cause g c =
    let before = c.args.self.now in
    fault_cause g.D.Disk before.table.contents (g.C.Clock.given before.clock) c.args.records.now c.requires.records c.table.ensures.consistent c.compaction_keeps_contents.ensures.changes _ c.compact.new.self
    before.journal c.in-Some.is before.closed c.requires.not_closed c.in-Err-DiskFault.ensures.crash c.in-Err-DiskFault.field-0 c.in-Err-DiskFault.ensures.cause c.in-Err-DiskFault.field-0-is c.fault_count.result c.fault_count.ensures
