-- What the opening of a file returns.
use Rattle.std.specs.Prelude.{◌≡◌, ℕ, ◌<◌, ◌≤◌, List, length, Result, Ok, Err}
use Rattle.std.specs.List.{All}
use Rattle.std.specs.Option.{ForSome}
use Rattle.base_core.specs.Causes.{Rose}
use Rattle.disk_core.specs.Disk.{DiskState, IsSettled}
use Rattle.disk_core.specs.Runs.{LeavesAlone}
use Rattle.disk_core.specs.declared.disk.Disk.{Ghosts}
use Rattle.journal_core.specs.Layout.{most_area}
use Rattle.journal_core.specs.File.{listed, HoldsAt, IsNotAStore, HasVersion, IsDamaged}
use Rattle.journal_core.specs.Journal.{state_of, area_of, side_of, used_of, IsNumbered, Keeps}
use Rattle.journal_core.specs.declared.layout.Format.{Format}
use Rattle.journal_core.specs.declared.layout.Format.TheVariants.{Second}
use Rattle.journal_core.specs.declared.journal.Journal.{Journal}
use Rattle.journal_core.specs.declared.open.OpenFault.{OpenFault}
use Rattle.journal_core.specs.declared.open.OpenFault.TheVariants as fault
use Rattle.journal_core.specs.declared.open.Found.{Found}
use Rattle.journal_core.specs.declared.records.Record.{Record}

-- what each refusal says of the file, read in this format
abbrev pub IsCauseOf : Format → List ℕ → OpenFault → Type 0
IsCauseOf format file fault.NotAStore = IsNotAStore file
IsCauseOf format file (fault.Version byte) = HasVersion format file byte
IsCauseOf format file (fault.Damaged place) = IsDamaged format file place
IsCauseOf format file fault.DiskFault = Unit {0}
IsCauseOf format file fault.Memory = Unit {0}

-- The file held these records, where the journal says, and it is as it was. Over a settled disk the journal keeps them.
-- Their numbers are in bounds, also if the disk doesn't report its content.
pub record Opens {D : Type 0} {g : Ghosts D} (before : DiskState) (journal : Journal D g)
    (entries : List Record) : Type 0 where
  pub holds : ForSome before.content (λ file. HoldsAt Second file (area_of journal) (side_of journal) entries)
  pub used : ForSome before.content (λ _. used_of journal ≡ length (listed Second entries))
  pub numbered : All IsNumbered entries
  pub keeps : IsSettled before → Keeps journal entries
  pub same : (state_of journal).content ≡ before.content
  pub alone : LeavesAlone before (state_of journal)

-- The file is refused for what its bytes say, or for a fault of the disk, which has counted it, and is as it was.
pub record IsRefused (format : Format) (before after : DiskState) (refusal : OpenFault) : Type 0 where
  pub cause : ForSome before.content (λ file. IsCauseOf format file refusal)
  pub disk_fault : refusal ≡ fault.DiskFault → Rose before.faults after.faults
  pub alone : LeavesAlone before after

-- the file holds what was found, or is refused for its cause
abbrev pub IsFoundIn : Format → List ℕ → Result Found OpenFault → Type 0
IsFoundIn format file (Ok found) = HoldsAt format file found.header.area found.header.side found.entries
    × (found.used ≡ length (listed format found.entries))
IsFoundIn format file (Err fault) = IsCauseOf format file fault

-- the numbers of an area
abbrev pub IsInBounds : Found → Type 0
IsInBounds found = (found.header.side < 2) × (found.header.area ≤ most_area) × (found.used < found.header.area)
