use Rattle.std.proofs.Common.{ap}
use Rattle.std.specs.Option.{option_copied}
use Rattle.repo_top.proofs.StartLemmas.{no_store}
use Rattle.repo_top.proofs.start.disk_at.Goals as goal

pub returns-in-None : goal.returns-in-None
returns-in-None g c = no_store g.H.Disk.Disk.state (option_copied c.args.path) (g.H.Host.state c.args.host.now) (ap option_copied c.in-None.is)
