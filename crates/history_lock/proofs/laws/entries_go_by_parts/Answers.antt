use Rattle.history_lock.proofs.Histories.{by-append}
use Rattle.history_lock.proofs.laws.entries_go_by_parts.Goals as goal

pub returns : goal.returns
returns g c = by-append
