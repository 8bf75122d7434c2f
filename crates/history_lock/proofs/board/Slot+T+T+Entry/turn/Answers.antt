use Rattle.std.proofs.Common.{refl, sym}
use Rattle.history_lock.proofs.Turning.{alike}
use Rattle.history_lock.proofs.board.Slot+T+T+Entry.turn.Goals as goal

pub of-requires : goal.of-requires
of-requires g c = (c.turn-answer.ensures.0, alike g.T.Turned.step (sym c.of-old.ensures) (sym c.of-asked.ensures) (sym c.of-reply.ensures) (sym c.of-new.ensures) c.turn-answer.ensures.1)

pub returns : goal.returns
returns g c = (c.of.result, refl, alike g.T.Turned.step c.of-old.ensures c.of-asked.ensures c.of-reply.ensures c.of-new.ensures c.of.ensures)
