use Rattle.std.proofs.Common.{ap, ◌∙◌}
use Rattle.history_lock.specs.Counter.{turns_of, added_of}
use Rattle.history_lock.specs.History.{held}
use Rattle.history_lock.specs.Passes.{shares}
use Rattle.history_lock.proofs.Histories.{held-append}
use Rattle.history_lock.proofs.Sums.{turns-append, added-append}
use Rattle.history_lock.proofs.tests.take_in.Goals as goal

pub returns-clause-numbers : goal.returns-clause-numbers
returns-clause-numbers c k = ap (held k) c.join.ensures.shares ∙ held-append k (shares c.args.into.now) (shares c.args.from)

pub returns-clause-turns : goal.returns-clause-turns
returns-clause-turns c = ap turns_of c.join.ensures.shares ∙ turns-append (shares c.args.into.now) (shares c.args.from)

pub returns-clause-added : goal.returns-clause-added
returns-clause-added c = ap added_of c.join.ensures.shares ∙ added-append (shares c.args.into.now) (shares c.args.from)
