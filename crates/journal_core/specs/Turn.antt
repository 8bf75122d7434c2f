-- What turning the side does: another list in the other area, and the side byte turned to it.
use Rattle.std.specs.Prelude.{◌≡◌, ◌⊎◌, ◌↔◌, ℕ, ◌+◌, ◌-◌, ◌<◌, ◌≤◌, List, [], ◌∷◌, Result, Some, IsSome, IfErr, IsErrOf}
use Rattle.std.specs.Option.{ForSome}
use Rattle.base_core.specs.Causes.{Rose}
use Rattle.disk_core.specs.Disk.{DiskState, IsSettled, written}
use Rattle.disk_core.specs.Runs.{LeavesOnly}
use Rattle.journal_core.specs.Layout.{side_place}
use Rattle.journal_core.specs.File.{HoldsAt, base_of, written_list}
use Rattle.journal_core.specs.Journal.{room_for, told, KeepsIn}
use Rattle.journal_core.specs.declared.layout.Format.{Format}
use Rattle.journal_core.specs.declared.layout.Format.TheVariants.{Second}
use Rattle.journal_core.specs.declared.journal.CommitFault.{CommitFault}
use Rattle.journal_core.specs.declared.journal.CommitFault.TheVariants.{Full, DiskFault}
use Rattle.journal_core.specs.declared.records.Record.{Record}

-- the other side
abbrev pub other_side : ℕ → ℕ
other_side side = 1 - side

-- the file holds the list that it held, or these records in the other area in format 2
abbrev pub HoldsOne : Format → ℕ → ℕ → List Record → List Record → List ℕ → Type 0
HoldsOne format area side kept entries file =
    HoldsAt format file area side kept ⊎ HoldsAt Second file area (other_side side) entries

-- the file with these records in the other area, and the side turned to it
abbrev pub turned : ℕ → ℕ → List Record → List ℕ → List ℕ
turned area side entries file =
    written side_place (other_side side ∷ []) (written (base_of area (other_side side)) (written_list entries) file)

-- an area is too short for these records, the version byte and a closed gate
abbrev pub IsTooLong : ℕ → List Record → Type 0
IsTooLong area entries = area < 2 + room_for entries

-- It is `Full` exactly when the records don't fit into an empty area. The only other fault is the disk's, which has
-- counted it.
pub record HasTurnCause {T : Type 0} (old new : DiskState) (area : ℕ) (entries : List Record)
    (result : Result T CommitFault) : Type 0 where
  pub full : IsErrOf result (Full 2 (told (room_for entries))) ↔ IsTooLong area entries
  pub others : IfErr result (λ fault. (fault ≡ DiskFault) ⊎ (fault ≡ Full 2 (told (room_for entries))))
  pub disk_fault : IsErrOf result DiskFault → Rose old.faults new.faults
  pub count : old.faults ≤ new.faults
  pub clock : old.moment ≤ new.moment
  pub reported : ForSome new.content (λ _. IsSome old.content)

-- A crash at any moment leaves the list that the area of the side held, or these records in the other area.
abbrev pub SurvivesTurn : Format → DiskState → DiskState → ℕ → ℕ → List Record → Type 0
SurvivesTurn format old new area side entries = ForSome new.content (λ _.
    (kept : List Record) → KeepsIn format old area side kept
    → LeavesOnly old new (HoldsOne format area side kept entries))

-- The file holds these records in the other area, if it held a list before, and each image is the file. It is the old
-- one, with the other area written from its beginning and then the side byte.
pub record Turns (format : Format) (old new : DiskState) (area side : ℕ) (entries : List Record) : Type 0 where
  pub keeps : (kept : List Record) → KeepsIn format old area side kept
      → KeepsIn Second new area (other_side side) entries
  pub settled : IsSettled new
  pub bytes : ForSome old.content (λ file. new.content ≡ Some (turned area side entries file))
