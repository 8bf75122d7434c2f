use Rattle.std.proofs.Common.{◌≡◌, ◌⊎◌, ◌<◌, ◌≤◌, ◌+◌, ◌-◌, [], ◌++◌, length}
use Rattle.std.specs.List.{All}
use Rattle.std.specs.Option.{ForSome}
use Rattle.disk_core.specs.Runs.{LeavesAlone}
use Rattle.journal_core.specs.File.{listed, Fits}
use Rattle.journal_core.specs.Journal.{IsNumbered}
use Rattle.journal_core.specs.Buffer.{IsPieceOf}
use Rattle.journal_core.specs.Area.{rest_at, Reaches}
use Rattle.journal_core.proofs.area.read_area.Given as goal

abbrev pub invariant-records : goal.invariant-records
invariant-records g l =
    let state = g.D.Disk.state in
    record {
      within : l.used ≤ l.size;
      inside : ForSome (state l.initial.disk).content (λ file. Reaches file l.base l.size
          → rest_at file l.base l.size ≡ listed l.format l.entries ++ rest_at file (l.base + l.used) (l.size - l.used));
      count : ForSome (state l.initial.disk).content (λ file. Reaches file l.base l.size → l.used ≡ length (listed l.format l.entries));
      fits : ForSome (state l.initial.disk).content (λ file. Reaches file l.base l.size → All (Fits l.format) l.entries);
      numbered : All IsNumbered l.entries;
      some : (l.entries ≡ []) ⊎ (l.used < l.size);
      piece : ForSome (state l.initial.disk).content (λ file. IsPieceOf file l.buffer);
      same : (state l.disk).content ≡ (state l.initial.disk).content;
      alone : LeavesAlone (state l.initial.disk) (state l.disk);
    }

abbrev pub decreases-records : goal.decreases-records
decreases-records g l = l.size - l.used
