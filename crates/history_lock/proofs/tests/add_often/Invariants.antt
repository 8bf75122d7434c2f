use Rattle.std.proofs.Common.{◌≡◌, ℕ, ◌+◌}
use Rattle.history_lock.specs.Counter.{turns_of, added_of}
use Rattle.history_lock.specs.History.{held}
use Rattle.history_lock.specs.Passes.{lock_of, shares}
use Rattle.history_lock.proofs.tests.add_often.Given as goal

abbrev pub invariant-loop : goal.invariant-loop
invariant-loop g l = record {
  lock : lock_of l.pass ≡ lock_of l.initial.pass;
  numbers : (k : ℕ) → held k (shares l.pass) ≡ held k (shares l.initial.pass);
  turns : turns_of (shares l.pass) ≡ turns_of (shares l.initial.pass) + l.counter;
  added : added_of (shares l.pass) ≡ added_of (shares l.initial.pass) + l.counter;
}
