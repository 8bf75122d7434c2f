use Rattle.std.proofs.Common.{ap, ◌∙◌}
use Rattle.history_lock.specs.History.{held}
use Rattle.history_lock.specs.Passes.{shares}
use Rattle.history_lock.proofs.Histories.{held-grown}
use Rattle.history_lock.proofs.tests.sleep.add_slowly.Goals as goal

pub loop-preserved : goal.loop-preserved
loop-preserved g c = let turn = c.apply.ensures.turn in record {
  lock = c.apply.ensures.lock ∙ c.loop.invariant.lock;
  numbers = λ k. ap (held k) turn.has_own ∙ (held-grown k turn.entry (shares c.loop.pass) ∙ c.loop.invariant.numbers k);
}
