use Rattle.repo_store.proofs.OverShrunk.{law}
use Rattle.repo_store.proofs.laws.runs_leave_shrunk_files.Goals as goal

pub returns : goal.returns
returns g c = law g.D.Disk
