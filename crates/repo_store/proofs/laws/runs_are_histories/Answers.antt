use Rattle.repo_store.proofs.Survival.{law}
use Rattle.repo_store.proofs.laws.runs_are_histories.Goals as goal

pub returns : goal.returns
returns g c = law g.D.Disk
