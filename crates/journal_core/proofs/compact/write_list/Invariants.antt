use Rattle.std.proofs.Common.{◌+◌, ◌≤◌, length, take}
use Rattle.std.specs.List.{flat_map}
use Rattle.disk_core.specs.Disk.{Torn}
use Rattle.disk_core.specs.Runs.{Run}
use Rattle.journal_core.specs.Buffer.{Gathered}
use Rattle.journal_core.specs.File.{opened}
use Rattle.journal_core.specs.declared.layout.Format.TheVariants.{Second}
use Rattle.journal_core.proofs.compact.write_list.Given as goal

abbrev pub invariant-entries : goal.invariant-entries
invariant-entries g l =
    let state = g.D.Disk.state in
    record {
      gathered : Gathered (state l.initial.disk) (state l.disk) l.initial.buffer l.buffer (flat_map (opened Second) (take l.index l.entries));
      crash : Run (state l.initial.disk) (state l.disk) (Torn l.initial.buffer.start (l.initial.buffer.count + length (flat_map (opened Second) (take l.index l.entries))));
      clock : (state l.initial.disk).moment ≤ (state l.disk).moment;
      count : (state l.initial.disk).faults ≤ (state l.disk).faults;
    }
