use Rattle.repo_store.proofs.OverFiles.{law}
use Rattle.repo_store.proofs.laws.runs_leave_their_files.Goals as goal

pub returns : goal.returns
returns g c = law g.D.Disk
