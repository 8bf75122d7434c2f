use Rattle.std.proofs.Common.{◌≡◌, ◌+◌, ◌≤◌, take}
use Rattle.disk_core.specs.Disk.{Torn}
use Rattle.disk_core.specs.Runs.{Run}
use Rattle.journal_core.specs.Journal.{room_for}
use Rattle.journal_core.proofs.Writing.{Made}
use Rattle.journal_core.proofs.Written.{staged_on}
use Rattle.journal_core.proofs.steps.stage_all.Given as goal

abbrev pub invariant-entries : goal.invariant-entries
invariant-entries g l =
    let state = g.D.Disk.state in
    record {
      at : l.place ≡ l.fn.place + room_for (take l.index l.entries);
      made : Made (state l.initial.disk) (state l.disk) l.fn.place (staged_on (take l.index l.entries)) l.place;
      crash : Run (state l.initial.disk) (state l.disk) (Torn l.fn.place (room_for l.entries));
      clock : (state l.initial.disk).moment ≤ (state l.disk).moment;
      count : (state l.initial.disk).faults ≤ (state l.disk).faults;
    }
