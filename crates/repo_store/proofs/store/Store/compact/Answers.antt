use Rattle.repo_store.proofs.Compacting.{stays}
use Rattle.repo_store.proofs.store.Store.compact.Goals as goal

pub returns-in_err-records-clause-rewrites : goal.returns-in_err-records-clause-rewrites
returns-in_err-records-clause-rewrites g c = stays g.D.Disk _
