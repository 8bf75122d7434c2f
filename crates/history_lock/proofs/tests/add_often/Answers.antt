use Rattle.std.proofs.Common.{◌<◌, length, ap, ◌∙◌, arith}
use Rattle.history_lock.specs.Counter.{turns_of, added_of}
use Rattle.history_lock.specs.History.{held}
use Rattle.history_lock.specs.Passes.{shares}
use Rattle.history_lock.proofs.Histories.{held-grown}
use Rattle.history_lock.proofs.Sums.{turns-grown, added-grown}
use Rattle.history_lock.proofs.tests.add_often.Goals as goal

pub loop-preserved : goal.loop-preserved
loop-preserved g c =
    let turn = c.apply.ensures.turn in let more = turn.has_own in let as_one = turn.stepped.0 in
    let numbered = ap length c.loop.pass.first_is_own in let some : 0 < length (shares c.loop.pass) = omega arith in
    let turns = ap turns_of more ∙ turns-grown turn.entry (shares c.loop.pass) some in
    let added = ap added_of more ∙ added-grown turn.entry (shares c.loop.pass) some in
    let turns' = c.loop.invariant.turns in let added' = c.loop.invariant.added in record {
      lock = c.apply.ensures.lock ∙ c.loop.invariant.lock;
      numbers = λ k. ap (held k) more ∙ (held-grown k turn.entry (shares c.loop.pass) ∙ c.loop.invariant.numbers k);
      turns = omega arith;
      added = omega arith;
    }
