use Rattle.std.proofs.Common.{◌≡◌, ℕ, ◌+◌, ◌≤◌, List, refl, sym, subst, arith, rules}
use Rattle.journal_core.specs.File.{HoldsAt}
use Rattle.journal_core.specs.Journal.{area_of, side_of, room_for}
use Rattle.journal_core.specs.Turn.{other_side}
use Rattle.journal_core.specs.declared.layout.Format.TheVariants.{Second}
use Rattle.journal_core.proofs.Adding.{fitting_all}
use Rattle.journal_core.proofs.Turning.{turn_idle, turn_by_disk, turn_went}
use Rattle.journal_core.proofs.Written.{length-listed}
use Rattle.journal_core.proofs.journal.Journal.compact.Goals as goal

pub returns-then-self-saturating_add-clause-crash : goal.returns-then-self-saturating_add-clause-crash
returns-then-self-saturating_add-clause-crash g c = turn_idle Second (g.D.Disk.state c.args.self.now.disk) (area_of c.args.self.now) (side_of c.args.self.now) c.args.entries.now

pub turn-requires-clause-stamps : goal.turn-requires-clause-stamps
turn-requires-clause-stamps g c = fitting_all c.args.entries.now c.requires.numbers c.room_of-room.ensures.times

pub returns-in_err-turn-clause-cause : goal.returns-in_err-turn-clause-cause
returns-in_err-turn-clause-cause g c =
    let state = g.D.Disk.state in
    let was = c.args.self.now in
    let old = state was.disk in
    let new = state c.turn.new.disk in
    let rs = c.args.entries.now in
    let fits : 2 + room_for rs ≤ area_of was = omega (arith, c.if-self-saturating_add.false, c.room_of-room.ensures.room, c.saturating_add.ensures, was.bounded) in
    record {
      turn = turn_by_disk old new (area_of was) rs _ c.from_residual.ensures.1 (λ over. absurd (omega (arith, over, fits))) c.in_err-turn.ensures.cause.failed c.turn.ensures.cause.later c.turn.ensures.clock c.turn.ensures.reported;
      unchanged = λ over. absurd (omega (arith, over, fits));
      area = refl;
      side = search rules;
      used = search rules;
    }

pub returns-in_err-turn-clause-crash : goal.returns-in_err-turn-clause-crash
returns-in_err-turn-clause-crash g c = c.turn.ensures.crash Second

pub returns-clause-cause : goal.returns-clause-cause
returns-clause-cause g c =
    let state = g.D.Disk.state in
    let was = c.args.self.now in
    let old = state was.disk in
    let new = state c.turn.new.disk in
    let rs = c.args.entries.now in
    let fits : 2 + room_for rs ≤ area_of was = omega (arith, c.if-self-saturating_add.false, c.room_of-room.ensures.room, c.saturating_add.ensures, was.bounded) in
    record {
      turn = turn_went old new (area_of was) rs _ fits c.turn.ensures.cause.later c.turn.ensures.clock c.turn.ensures.reported;
      unchanged = λ over. absurd (omega (arith, over, fits));
      area = refl;
      side = tt;
      used = tt;
    }

pub returns-clause-crash : goal.returns-clause-crash
returns-clause-crash g c = c.turn.ensures.crash Second

pub returns-clause-replaced : goal.returns-clause-replaced
returns-clause-replaced g c =
    let state = g.D.Disk.state in
    let was = c.args.self.now in
    let old = state was.disk in
    let new = state c.turn.new.disk in
    let rs = c.args.entries.now in
    let fits : 2 + room_for rs ≤ area_of was = omega (arith, c.if-self-saturating_add.false, c.room_of-room.ensures.room, c.saturating_add.ensures, was.bounded) in
    let turned = c.in_ok-turn.ensures.turned Second in
    record {
      keeps = λ kept keeps. record {
        list = turned.keeps kept keeps.list;
        used = λ last now. omega (arith, length-listed rs, c.room_of-room.ensures.room, fits, was.bounded);
      };
      durable = λ last now kept keeps time image since to left.
          let here : time ≡ new.moment = omega (arith, c.of.ensures, since, to) in
          let is = turned.settled last now image (subst (λ (m : ℕ). new.image_at m image) here left) in
          subst (λ (f : List ℕ). HoldsAt Second f (area_of was) (other_side (side_of was)) rs) (sym is) ((turned.keeps kept keeps.list).holds last now);
      now = c.of.ensures;
      side = refl;
      used = omega (arith, c.room_of-room.ensures.room, fits, was.bounded);
      bytes = turned.bytes;
    }
