use Rattle.std.proofs.Common.{◌≡◌, ap, sym, subst, ◌∙◌, arith, []}
use mathlib.Core.List.{IsPrefix}
use Rattle.history_lock.specs.History.{AreOwn, Leads}
use Rattle.history_lock.specs.Told.{settled, both_of, AreSeen, longer}
use Rattle.history_lock.proofs.Ends.{joins}
use Rattle.history_lock.proofs.Moves.{settles_noted}
use Rattle.history_lock.proofs.Meeting.{both_begin}
use Rattle.history_lock.proofs.meetings.absorb.Goals as goal

pub join_seat-requires : goal.join_seat-requires
join_seat-requires g c = let words = c.args.lock.now.sized in (
  c.requires.into,
  c.requires.from,
  c.requires.from_idle.1,
  omega arith,
  joins (Leads g.T.Turned.step) c.args.lock.now.table.shared.key.first.value c.args.lock.now.table.shared.key.passes c.args.into.now.id c.args.into.now.me.0 c.args.from.id c.args.from.me.0 c.requires.into_idle.0 c.requires.from_idle.0,
)

pub load-requires : goal.load-requires
load-requires g c = let words = c.args.lock.now.sized in (
  c.join_seat.ensures.0 ∙ c.requires.into,
  omega arith,
  settles_noted (Leads g.T.Turned.step) c.args.lock.now.table.shared.key.first.value c.args.lock.now.table.shared.key.passes _ _ c.join_seat.new.seat.me (ap (λ m. m.0.come) c.join_seat.ensures.2 ∙ c.requires.into_idle.0.1),
)

pub returns : goal.returns
returns g c = let v = c.args.into.now.me.0 in let w = c.args.from.me.0 in let joined = c.join_seat.ensures.2 in let told = c.load.ensures.2 in
    let view : c.load.new.seat.me ≡ (settled (both_of v w), []) = told.0 ∙ ((λ i. (settled (joined i).0, (joined i).1)) ∙ ap (λ l. (settled (both_of v w), l)) c.requires.into_idle.1) in
    let both = both_begin v.seen w.seen (subst (λ m. AreSeen m.0.noted m.0.seen) joined told.1) in
    let seen : longer v.seen w.seen ≡ c.load.new.seat.me.0.seen = sym (ap (λ m. m.0.seen) view) in record {
      lock = c.load.ensures.0 ∙ c.join_seat.ensures.0;
      view = view;
      own = subst (λ m. AreOwn m.0.seen m.0.shares) (sym told.0) told.2;
      into_seen = subst (IsPrefix v.seen) seen both.0;
      from_seen = subst (IsPrefix w.seen) seen both.1;
    }
