use Rattle.std.proofs.Common.{sym, subst}
use Rattle.history_lock.specs.History.{HoldsOwn}
use Rattle.history_lock.proofs.Histories.{own_held}
use Rattle.history_lock.proofs.lock.Shared.meet.Goals as goal

pub invariant_of-a-clause-holds_own : goal.invariant_of-a-clause-holds_own
invariant_of-a-clause-holds_own g c = own_held c.tell-2.new.other.me.0.seen c.tell-2.new.other.me.0.shares c.tell-2.ensures.own

pub invariant_of-b-clause-holds_own : goal.invariant_of-b-clause-holds_own
invariant_of-b-clause-holds_own g c = subst (λ m. HoldsOwn m.0.seen m.0.shares) (sym c.tell-2.ensures.seat) (own_held c.tell.new.other.me.0.seen c.tell.new.other.me.0.shares c.tell.ensures.own)
