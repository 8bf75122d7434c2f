use Rattle.std.proofs.Common.{ap, ◌∙◌, arith}
use Rattle.history_lock.specs.History.{held}
use Rattle.history_lock.specs.Passes.{shares}
use Rattle.history_lock.proofs.Histories.{held-append}
use Rattle.history_lock.proofs.Sums.{one_of_two}
use Rattle.history_lock.proofs.tests.a_turn_after_a_meeting_sees_the_turn_before_it.Goals as goal

pub close-past-requires-clause-all : goal.close-past-requires-clause-all
close-past-requires-clause-all g c k below =
    let one = shares c.meet_then_apply-reply.new.one in let two = shares c.meet_then_apply-reply.new.two in
    let all = ap (held k) c.join.ensures.shares ∙ held-append k one two in let same_one = c.meet_then_apply-reply.ensures.one_numbers k in let same_two = c.meet_then_apply-reply.ensures.two_numbers k in
    let first = ap (held k) c.in-Some.ensures.one.2 in let second = ap (held k) c.in-Some.ensures.two.2 in
    let count = c.in-Some.ensures.count in let some = one_of_two k (omega arith) in omega arith
