use Rattle.std.proofs.Common.{◌∷◌, ap, sym, ◌∙◌}
use Rattle.atomic_table.specs.Table.{rest}
use Rattle.history_lock.specs.History.{Leads}
use Rattle.history_lock.proofs.Turning.{in_hand}
use Rattle.history_lock.proofs.seats.serve.Goals as goal

pub slot_mut-slot-requires : goal.slot_mut-slot-requires
slot_mut-slot-requires g c = let h = c.requires.serving in (c.requires.table, (h.0, h.2 ∙ ap (λ l. (0, h.0) ∷ rest l) (sym h.2)))

pub returns-clause-served : goal.returns-clause-served
returns-clause-served g c = let first : g.row.T.Denot = c.args.lock.now.table.shared.key.first.value in let m = c.args.seat.now.me in let slot = c.slot_mut-slot.result.now in
    let hand = in_hand (Leads g.T.Turned.step) first m slot c.requires.serving c.slot_mut-slot.ensures.value in
    let turned = c.turn.ensures in
    (slot.value, c.turn.new.self, turned.0, hand.0, turned.2, turned.1, ap (λ l. (m.0, (0, c.turn.new.self) ∷ l)) hand.1)
