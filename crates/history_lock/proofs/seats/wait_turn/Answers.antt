use Rattle.std.proofs.Common.{ap, subst, ◌∙◌, arith}
use Rattle.history_lock.specs.History.{Leads}
use Rattle.history_lock.specs.Told.{Arrives}
use Rattle.history_lock.proofs.Moves.{looks}
use Rattle.history_lock.proofs.seats.wait_turn.Goals as goal

pub load-serving-requires : goal.load-serving-requires
load-serving-requires g c = let words = c.args.lock.now.sized in let w = c.requires.waits in let same = c.loop.invariant.2 in (
  c.loop.invariant.0 ∙ c.requires.table,
  omega arith,
  looks (Leads g.T.Turned.step) c.args.lock.now.table.shared.key.first.value c.args.lock.now.table.shared.key.passes _ _ c.loop.seat.me w.0
      (ap (λ m. m.0.tickets) same ∙ w.2) (ap (λ m. m.0.first) same ∙ c.requires.first) (ap (λ m. m.0.come) same ∙ c.requires.not_come) (ap (λ m. m.1) same ∙ c.requires.no_slot),
)

pub returns-then-serving-ticket-clause-come : goal.returns-then-serving-ticket-clause-come
returns-then-serving-ticket-clause-come g c = let w = c.requires.waits in let same = c.loop.invariant.2 in
    subst (λ m. Arrives (Leads g.T.Turned.step) c.args.lock.now.table.shared.key.first.value m c.load-serving.new.seat.me) same
    ((c.load-serving.ensures.2 w.0 c.args.lock.now.table.shared.key.first.value (ap (λ m. m.0.tickets) same ∙ w.2) (ap (λ m. m.0.first) same ∙ c.requires.first)).0 (c.if-serving-ticket.true ∙ w.1))
