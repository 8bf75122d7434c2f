use Rattle.repo_store.proofs.Opened.{inside, number_opened, opens_file, replay_refused_by}
use Rattle.repo_store.proofs.opening.open_table.Goals as goal

pub returns-in-Ok-replay-clause-opened : goal.returns-in-Ok-replay-clause-opened
returns-in-Ok-replay-clause-opened g c = opens_file g.D.Disk (g.D.Disk.state c.args.disk) c.in-Ok.journal c.in-Ok.records c.in-Ok.ensures.opened c.in-Ok-replay.table c.in-Ok-replay.ensures c.counter.ensures.consistent

pub returns-in-Ok-replay-clause-numbered : goal.returns-in-Ok-replay-clause-numbered
returns-in-Ok-replay-clause-numbered g c = number_opened c.in-Ok.records c.in-Ok-replay.table c.in-Ok.ensures.opened.numbered c.in-Ok-replay.ensures

pub replay_fault-fault-requires : goal.replay_fault-fault-requires
replay_fault-fault-requires g c = inside c.in-Ok.records c.in-Err-replay.fault c.in-Err-replay.ensures

pub returns-in-Ok-clause-refused : goal.returns-in-Ok-clause-refused
returns-in-Ok-clause-refused g c = replay_refused_by g.D.Disk (g.D.Disk.state c.args.disk) c.in-Ok.journal c.in-Ok.records c.in-Ok.ensures.opened c.in-Err-replay.fault c.in-Err-replay.ensures
    c.into_disk.result c.side.result c.room.result.area c.replay_fault-fault.result c.into_disk.ensures c.side.ensures c.room.ensures.area c.replay_fault-fault.ensures
