use Rattle.std.proofs.Common.{ap, ◌∙◌, arith}
use Rattle.history_lock.specs.History.{held}
use Rattle.history_lock.specs.Passes.{shares}
use Rattle.history_lock.proofs.Histories.{held-append}
use Rattle.history_lock.proofs.Sums.{one_of_three}
use Rattle.history_lock.proofs.tests.sleep.add_three_and_close.Goals as goal

pub close-past-requires-clause-all : goal.close-past-requires-clause-all
close-past-requires-clause-all g c k below =
    let one = shares c.add_three.new.one in let two = shares c.add_three.new.two in let three = shares c.add_three.new.three in
    let two_of = ap (held k) c.join.ensures.shares ∙ held-append k one two in
    let all = ap (held k) c.join-2.ensures.shares ∙ held-append k (shares c.join.new.into) three in
    let same_one = c.add_three.ensures.one_numbers k in let same_two = c.add_three.ensures.two_numbers k in let same_three = c.add_three.ensures.three_numbers k in
    let first = ap (held k) c.requires.one.2 in let second = ap (held k) c.requires.two.2 in let third = ap (held k) c.requires.three.2 in
    let count = c.requires.count in let some = one_of_three k (omega arith) in omega arith
