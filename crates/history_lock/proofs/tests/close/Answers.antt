use Rattle.std.proofs.Common.{◌+◌, ◌%◌, ap, sym, ◌∙◌, arith}
use Rattle.history_lock.specs.contracts.counter.CounterTurned.TheImpl.{ghosts}
use Rattle.history_lock.specs.Counter.{turns_of, added_of}
use Rattle.history_lock.specs.History.{entries, Leads}
use Rattle.history_lock.specs.Passes.{first_of, passes_of, past, past_shares}
use Rattle.history_lock.proofs.Sums.{whole_turns, whole_added, runs_add}
use Rattle.history_lock.proofs.tests.close.Goals as goal

pub returns-clause-history : goal.returns-clause-history
returns-clause-history c = let r = c.close.result.1 in
    whole_turns (passes_of c.args.lock) (past r) (past_shares r) c.close.ensures.numbers c.close.ensures.once c.close.ensures.own ∙ ap turns_of c.close.ensures.shares

pub returns-clause-sum : goal.returns-clause-sum
returns-clause-sum c = let r = c.close.result.1 in let none = c.requires.first in
    let all = whole_added (passes_of c.args.lock) (past r) (past_shares r) c.close.ensures.numbers c.close.ensures.once c.close.ensures.own ∙ ap added_of c.close.ensures.shares in
    let sum = runs_add (Leads ghosts.step) (λ old e new s. s.2.2 ∙ (s.2.1 ∙ ap (λ x. (old.sum + x) % 18446744073709551616) (sym s.2.0))) (first_of c.args.lock) (entries (past r)) c.close.result.0 (omega arith) c.close.ensures.value in
    omega arith
