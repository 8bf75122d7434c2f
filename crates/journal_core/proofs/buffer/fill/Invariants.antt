use Rattle.std.proofs.Common.{◌≡◌, ◌≤◌, ◌-◌, length, take, drop}
use Rattle.std.specs.Option.{ForSome}
use Rattle.disk_core.specs.Runs.{LeavesAlone}
use Rattle.journal_core.proofs.buffer.fill.Given as goal

abbrev pub invariant-reads : goal.invariant-reads
invariant-reads g l = record {
  within : l.filled ≤ length l.into;
  bytes : ForSome (g.D.Disk.state l.initial.disk).content (λ file. take l.filled l.into ≡ take l.filled (drop l.place file));
  inside : ForSome (g.D.Disk.state l.initial.disk).content (λ file. l.filled ≤ length (drop l.place file));
  same : (g.D.Disk.state l.disk).content ≡ (g.D.Disk.state l.initial.disk).content;
  alone : LeavesAlone (g.D.Disk.state l.initial.disk) (g.D.Disk.state l.disk);
}

abbrev pub decreases-reads : goal.decreases-reads
decreases-reads g l = length l.into - l.filled
