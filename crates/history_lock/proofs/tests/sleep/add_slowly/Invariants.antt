use Rattle.std.proofs.Common.{◌≡◌, ℕ}
use Rattle.history_lock.specs.History.{held}
use Rattle.history_lock.specs.Passes.{lock_of, shares}
use Rattle.history_lock.proofs.tests.sleep.add_slowly.Given as goal

abbrev pub invariant-loop : goal.invariant-loop
invariant-loop g l = record {
  lock : lock_of l.pass ≡ lock_of l.initial.pass;
  numbers : (k : ℕ) → held k (shares l.pass) ≡ held k (shares l.initial.pass);
}
