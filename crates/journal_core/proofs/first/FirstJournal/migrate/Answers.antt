use Rattle.std.proofs.Common.{inl, inr, ◌+◌, ◌≤◌, refl, ap, arith}
use Rattle.disk_core.proofs.RunLaws.{reports}
use Rattle.journal_core.specs.Journal.{room_for}
use Rattle.journal_core.specs.declared.journal.CommitFault.TheVariants.{Full, DiskFault}
use Rattle.journal_core.specs.declared.layout.Format.TheVariants.{First}
use Rattle.journal_core.proofs.Adding.{fitting_all}
use Rattle.journal_core.proofs.Turning.{turn_idle, not_full}
use Rattle.journal_core.proofs.Written.{length-listed}
use Rattle.journal_core.proofs.first.FirstJournal.migrate.Goals as goal

pub returns-then-area-saturating_add-clause-refused : goal.returns-then-area-saturating_add-clause-refused
returns-then-area-saturating_add-clause-refused g c =
    let was = c.args.self in
    let rs = c.args.entries.now in
    let room = c.room_of-room.ensures.room in
    record {
      full = ((λ is. omega (arith, c.if-area-saturating_add.true, room, c.saturating_add.ensures, was.bounded)), (λ over. ap (Full 2) room));
      unchanged = λ over. refl;
      others = inr (ap (Full 2) room);
      disk_fault = λ is. absurd (cc);
      crash = turn_idle First (g.D.Disk.state was.disk) was.area was.side rs;
      reported = reports (g.D.Disk.state was.disk).content;
      count = omega arith;
      clock = omega arith;
    }

pub turn-requires-clause-stamps : goal.turn-requires-clause-stamps
turn-requires-clause-stamps g c = fitting_all c.args.entries.now c.requires.numbers c.room_of-room.ensures.times

pub returns-in-Ok-clause-migrated : goal.returns-in-Ok-clause-migrated
returns-in-Ok-clause-migrated g c =
    let state = g.D.Disk.state in
    let was = c.args.self in
    let old = state was.disk in
    let new = state c.turn.new.disk in
    let rs = c.args.entries.now in
    let fits : 2 + room_for rs ≤ was.area = omega (arith, c.if-area-saturating_add.false, c.room_of-room.ensures.room, c.saturating_add.ensures, was.bounded) in
    let turned = c.in-Ok.ensures.turned First in
    record {
      fits = λ over. absurd (omega (arith, over, fits));
      keeps = λ kept keeps. record {
        list = turned.keeps kept keeps;
        used = λ last now. omega (arith, length-listed rs, c.room_of-room.ensures.room, fits, was.bounded);
      };
      crash = c.turn.ensures.crash First;
      reported = c.turn.ensures.reported;
      area = refl;
      side = refl;
      used = omega (arith, c.room_of-room.ensures.room, fits, was.bounded);
      bytes = turned.bytes;
      count = c.turn.ensures.cause.later;
      clock = c.turn.ensures.clock;
    }

pub returns-in-Err-clause-refused : goal.returns-in-Err-clause-refused
returns-in-Err-clause-refused g c =
    let state = g.D.Disk.state in
    let was = c.args.self in
    let old = state was.disk in
    let new = state c.turn.new.disk in
    let rs = c.args.entries.now in
    let fits : 2 + room_for rs ≤ was.area = omega (arith, c.if-area-saturating_add.false, c.room_of-room.ensures.room, c.saturating_add.ensures, was.bounded) in
    record {
      full = ((λ is. absurd (not_full DiskFault _ refl is)), (λ over. absurd (omega (arith, over, fits))));
      unchanged = λ over. absurd (omega (arith, over, fits));
      others = inl refl;
      disk_fault = λ is. c.in-Err.ensures.cause.failed;
      crash = c.turn.ensures.crash First;
      reported = c.turn.ensures.reported;
      count = c.turn.ensures.cause.later;
      clock = c.turn.ensures.clock;
    }
