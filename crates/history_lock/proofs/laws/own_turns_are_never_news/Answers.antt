use Rattle.history_lock.proofs.OwnTurns.{none_met, none_joining, none_joined}
use Rattle.history_lock.proofs.laws.own_turns_are_never_news.Goals as goal

pub returns : goal.returns
returns g c = record {
  meeting = none_met;
  joining = none_joining;
  joined = none_joined;
}
