-- What contracts see of a journal of format 1, and what its migration does.
use Rattle.std.specs.Prelude.{◌≡◌, ◌⊎◌, ◌↔◌, ℕ, ◌+◌, ◌≤◌, List, Some, IsSome}
use Rattle.std.specs.Option.{ForSome}
use Rattle.base_core.specs.Causes.{Rose}
use Rattle.disk_core.specs.Disk.{DiskState, IsSettled}
use Rattle.disk_core.specs.Runs.{LeavesAlone}
use Rattle.disk_core.specs.declared.disk.Disk.{Ghosts}
use Rattle.journal_core.specs.File.{HoldsAt}
use Rattle.journal_core.specs.Journal.{state_of, area_of, side_of, used_of, room_for, told, KeepsIn, Keeps}
use Rattle.journal_core.specs.Turn.{other_side, turned, IsTooLong, SurvivesTurn}
use Rattle.journal_core.specs.declared.layout.Format.TheVariants.{First}
use Rattle.journal_core.specs.declared.first.FirstJournal.{FirstJournal}
use Rattle.journal_core.specs.declared.journal.CommitFault.{CommitFault}
use Rattle.journal_core.specs.declared.journal.CommitFault.TheVariants.{Full, DiskFault}
use Rattle.journal_core.specs.declared.journal.Journal.{Journal}
use Rattle.journal_core.specs.declared.records.Record.{Record}

module _ {D : Type 0} {g : Ghosts D} where
  -- the disk
  abbrev pub first_disk : FirstJournal D g → D
  first_disk journal = journal.disk

  -- what contracts see of it
  abbrev pub first_state : FirstJournal D g → DiskState
  first_state journal = g.state (first_disk journal)

  -- the length of an area
  abbrev pub first_area : FirstJournal D g → ℕ
  first_area journal = journal.area

  -- the area that counts, 0 or 1
  abbrev pub first_side : FirstJournal D g → ℕ
  first_side journal = journal.side

  -- The journal keeps these records: if its disk reports its content, the file holds them in format 1 in the area of the
  -- journal's side, and each image is what a read gives.
  abbrev pub KeepsFirst : FirstJournal D g → List Record → Type 0
  KeepsFirst journal entries = KeepsIn First (first_state journal) (first_area journal) (first_side journal) entries

  -- The file held these records in format 1, and it is as it was. Over a settled disk the journal keeps them.
  pub record OpensFirst (before : DiskState) (journal : FirstJournal D g) (entries : List Record) : Type 0 where
    pub holds : ForSome before.content (λ file.
        HoldsAt First file (first_area journal) (first_side journal) entries)
    pub keeps : IsSettled before → KeepsFirst journal entries
    pub same : (first_state journal).content ≡ before.content
    pub alone : LeavesAlone before (first_state journal)

  -- A crash at any moment leaves the list of format 1 that the journal kept, or these records in format 2.
  abbrev pub SurvivesMigration : FirstJournal D g → DiskState → List Record → Type 0
  SurvivesMigration old new entries =
      SurvivesTurn First (first_state old) new (first_area old) (first_side old) entries

  -- The records fit, and the new journal keeps them, in format 2 in the other area. The file is the old one with that
  -- area and the side byte written.
  pub record Migrates (old : FirstJournal D g) (new : Journal D g) (entries : List Record) : Type 0 where
    pub fits : IsTooLong (first_area old) entries → ⊥
    pub keeps : (kept : List Record) → KeepsFirst old kept → Keeps new entries
    pub crash : SurvivesMigration old (state_of new) entries
    pub area : area_of new ≡ first_area old
    pub side : side_of new ≡ other_side (first_side old)
    pub used : used_of new ≡ 1 + room_for entries
    pub bytes : ForSome (first_state old).content (λ file.
        (state_of new).content ≡ Some (turned (first_area old) (first_side old) entries file))
    pub reported : ForSome (state_of new).content (λ _. IsSome (first_state old).content)
    pub count : (first_state old).faults ≤ (state_of new).faults
    pub clock : (first_state old).moment ≤ (state_of new).moment

  -- It is `Full` exactly when the records don't fit into an empty area, and then the disk is as it was. The only other
  -- fault is the disk's, which has counted it.
  pub record IsNotMigrated (old : FirstJournal D g) (disk : D) (fault : CommitFault)
      (entries : List Record) : Type 0 where
    pub full : (fault ≡ Full 2 (told (room_for entries))) ↔ IsTooLong (first_area old) entries
    pub unchanged : IsTooLong (first_area old) entries → disk ≡ first_disk old
    pub others : (fault ≡ DiskFault) ⊎ (fault ≡ Full 2 (told (room_for entries)))
    pub disk_fault : fault ≡ DiskFault → Rose (first_state old).faults (g.state disk).faults
    pub crash : SurvivesMigration old (g.state disk) entries
    pub reported : ForSome (g.state disk).content (λ _. IsSome (first_state old).content)
    pub count : (first_state old).faults ≤ (g.state disk).faults
    pub clock : (first_state old).moment ≤ (g.state disk).moment
