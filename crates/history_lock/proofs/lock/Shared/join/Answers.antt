use Rattle.history_lock.proofs.Histories.{own_held}
use Rattle.history_lock.proofs.lock.Shared.join.Goals as goal

pub invariant_of-into-clause-holds_own : goal.invariant_of-into-clause-holds_own
invariant_of-into-clause-holds_own g c = own_held c.absorb.new.into.me.0.seen c.absorb.new.into.me.0.shares c.absorb.ensures.own
