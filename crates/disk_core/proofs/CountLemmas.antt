-- The counts that a log keeps.
use Rattle.std.proofs.Common.{◌≡◌, List}
use Rattle.disk_core.specs.Counts.{kept_of, HasCounts}
use Rattle.disk_core.specs.Past.{count_of}
use Rattle.disk_core.specs.declared.calls.Counts.{Counts}
use Rattle.disk_core.specs.declared.calls.DiskCall.{DiskCall}
use Rattle.disk_core.specs.declared.calls.DiskCall.TheVariants.{Length, ReadAt, WriteAt, Sync}
use Rattle.disk_core.specs.declared.calls.Noted.{Noted}

pub kind_counted : (call : DiskCall) (counts : Counts) (calls : List Noted) → HasCounts counts calls → kept_of call counts ≡ count_of call calls
kind_counted Length counts calls has = has.lengths
kind_counted ReadAt counts calls has = has.reads
kind_counted WriteAt counts calls has = has.writes
kind_counted Sync counts calls has = has.syncs
