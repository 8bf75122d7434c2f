use Rattle.repo_store.proofs.Compacting.{stays}
use Rattle.repo_store.proofs.store.Store.shrink.Goals as goal

pub returns-then-room-clause-rewrites : goal.returns-then-room-clause-rewrites
returns-then-room-clause-rewrites g c = stays g.D.Disk _

pub returns-in_err-records-clause-rewrites : goal.returns-in_err-records-clause-rewrites
returns-in_err-records-clause-rewrites g c = stays g.D.Disk _

pub returns-in_default-2-clause-rewrites : goal.returns-in_default-2-clause-rewrites
returns-in_default-2-clause-rewrites g c = stays g.D.Disk _
