use Rattle.std.proofs.Common.{ap, ◌∙◌, arith}
use Rattle.history_lock.specs.History.{Leads}
use Rattle.history_lock.specs.Told.{waiting}
use Rattle.history_lock.proofs.Moves.{draws}
use Rattle.history_lock.proofs.seats.draw.Goals as goal

pub fetch_add-requires : goal.fetch_add-requires
fetch_add-requires g c = let words = c.args.lock.now.sized in
    (c.requires.table, omega arith, draws (Leads g.T.Turned.step) c.args.lock.now.table.shared.key.first.value c.args.lock.now.table.shared.key.passes _ _ _ c.requires.idle.0 c.requires.some)

pub returns : goal.returns
returns g c = let d = c.fetch_add.ensures.2 in record {
  table = c.fetch_add.ensures.0;
  id = c.fetch_add.ensures.1;
  drawn = (d.0, d.1, d.2 ∙ ap (λ cs. (waiting c.args.seat.now.me.0 d.0, cs)) c.requires.idle.1);
}
