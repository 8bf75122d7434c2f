use Rattle.repo_store.proofs.Since.{law}
use Rattle.repo_store.proofs.laws.runs_survive_crashes.Goals as goal

pub returns : goal.returns
returns g c = law g.D.Disk
