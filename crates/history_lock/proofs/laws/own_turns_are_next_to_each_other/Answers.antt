use Rattle.history_lock.proofs.OwnTurns.{none_between}
use Rattle.history_lock.proofs.laws.own_turns_are_next_to_each_other.Goals as goal

pub returns : goal.returns
returns g c = none_between
