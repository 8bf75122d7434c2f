use Rattle.history_lock.specs.History.{Leads}
use Rattle.history_lock.proofs.Histories.{runs_snoc}
use Rattle.history_lock.proofs.OwnTurns.{runs-append, runs_parts}
use Rattle.history_lock.proofs.laws.runs_go_by_parts.Goals as goal

pub returns : goal.returns
returns g c = record {
  by_one = runs_snoc (Leads g.T.Turned.step);
  goes_on = runs-append (Leads g.T.Turned.step);
  parts = runs_parts (Leads g.T.Turned.step);
}
