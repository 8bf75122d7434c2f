-- The counts of calls that a log keeps.
use Rattle.std.specs.Prelude.{◌≡◌, ℕ, ◌+◌, List}
use Rattle.disk_core.specs.Past.{count_of}
use Rattle.disk_core.specs.declared.calls.Counts.{Counts}
use Rattle.disk_core.specs.declared.calls.DiskCall.{DiskCall}
use Rattle.disk_core.specs.declared.calls.DiskCall.TheVariants.{Length, ReadAt, WriteAt, Sync}
use Rattle.disk_core.specs.declared.calls.Noted.{Noted}

-- the count of a kind
abbrev pub kept_of : DiskCall → Counts → ℕ
kept_of Length counts = counts.lengths
kept_of ReadAt counts = counts.reads
kept_of WriteAt counts = counts.writes
kept_of Sync counts = counts.syncs

-- the counts with one more of a kind
abbrev pub one_more : DiskCall → Counts → Counts
one_more Length counts = record counts { lengths = counts.lengths + 1 }
one_more ReadAt counts = record counts { reads = counts.reads + 1 }
one_more WriteAt counts = record counts { writes = counts.writes + 1 }
one_more Sync counts = record counts { syncs = counts.syncs + 1 }

-- they are those of the log
pub record HasCounts (counts : Counts) (calls : List Noted) : Type 0 where
  pub lengths : counts.lengths ≡ count_of Length calls
  pub reads : counts.reads ≡ count_of ReadAt calls
  pub writes : counts.writes ≡ count_of WriteAt calls
  pub syncs : counts.syncs ≡ count_of Sync calls
