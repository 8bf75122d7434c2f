use Rattle.std.proofs.Common.{arith}
use Rattle.history_lock.specs.History.{Leads}
use Rattle.history_lock.proofs.Ends.{splits_note}
use Rattle.history_lock.proofs.meetings.tell.Goals as goal

pub split_seat-note-requires : goal.split_seat-note-requires
split_seat-note-requires g c = let words = c.args.lock.now.sized in
    (c.requires.seat, omega arith, splits_note (Leads g.T.Turned.step) c.args.lock.now.table.shared.key.first.value c.args.lock.now.table.shared.key.passes c.args.seat.now.id c.args.seat.now.me.0)
