-- What the opening of a file returns. This project's own.
use Rattle.std.specs.Prelude.{◌≡◌, ◌⊎◌, ℕ, ◌+◌, ◌≤◌, List, length, take, Option, None, Some}
use Rattle.std.specs.Option.{ForSome}
use Rattle.base_core.specs.Causes.{Rose}
use Rattle.disk_core.specs.Disk.{DiskState, IsSettled}
use Rattle.disk_core.specs.Runs.{LeavesAlone}
use Rattle.disk_core.specs.declared.disk.Disk.{Ghosts}
use Rattle.journal_core.specs.File.{HoldsAt, Holds, IsNotAStore, HasVersion, IsDamaged, base_of, listed}
use Rattle.journal_core.specs.Journal.{state_of, area_of, side_of, used_of, room_for, told}
use Rattle.journal_core.specs.Layout.{fields_length}
use Rattle.journal_core.specs.declared.journal.Journal.{Journal}
use Rattle.journal_core.specs.declared.layout.Format.TheVariants.{Second}
use Rattle.journal_core.specs.declared.open.OpenFault.{OpenFault}
use Rattle.journal_core.specs.declared.open.OpenFault.TheVariants as opens
use Rattle.journal_core.specs.declared.records.Record.{Record}
use Rattle.record_core.specs.declared.format.Format.TheVariants as bodies
use Rattle.repo_state.specs.Contents.{Contents, no_contents}
use Rattle.repo_state.specs.Replayed.{AreReplayed, IsFirstOther}
use Rattle.repo_state.specs.Sound.{least_unsound}
use Rattle.repo_state.specs.declared.replay.ReplayFault.{ReplayFault}
use Rattle.repo_state.specs.declared.replay.ReplayFault.TheVariants as replays
use Rattle.repo_store.specs.declared.fault.StoreFault.{StoreFault}
use Rattle.repo_store.specs.declared.fault.StoreFault.TheVariants as faults
use Rattle.repo_store.specs.Stands.{GiveContents}
use Rattle.repo_store.specs.Store.{KeepsContents}

-- where the body of the next record begins: after the version byte, these records, its gate and its fields
abbrev pub body_place : ℕ → ℕ → List Record → ℕ
body_place area side entries = base_of area side + 1 + room_for entries + 1 + fields_length Second

-- the file holds records, and at this place begins the first body that is that of no change
pub record HasOtherBody (file : List ℕ) (place : ℕ) : Type 0 where
  pub records : List Record
  pub area : ℕ
  pub side : ℕ
  pub holds : HoldsAt Second file area side records
  pub index : ℕ
  pub is : IsFirstOther bodies.Second records index
  pub place_is : place ≡ told (body_place area side (take index records))

-- the file holds records of changes, after which the object of this identifier is the least that isn't sound
abbrev pub IsUnsound : List ℕ → List ℕ → Type 0
IsUnsound file id = (records : List Record) × Holds Second file records
    × (c : Contents) × AreReplayed bodies.Second records c × (least_unsound c.objects ≡ Some id)

-- what each refusal says of the file
abbrev pub IsStoreCause : List ℕ → StoreFault → Type 0
IsStoreCause file faults.NotAStore = IsNotAStore file
IsStoreCause file (faults.Version byte) = HasVersion Second file byte
IsStoreCause file (faults.Damaged place) = IsDamaged Second file place ⊎ HasOtherBody file place
IsStoreCause file (faults.Unsound id) = IsUnsound file id
IsStoreCause file faults.DiskFault = Unit {0}
IsStoreCause file faults.Memory = Unit {0}

-- a refusal of the journal, as the store's
abbrev pub fault_of_opening : OpenFault → StoreFault
fault_of_opening opens.NotAStore = faults.NotAStore
fault_of_opening (opens.Version byte) = faults.Version byte
fault_of_opening (opens.Damaged place) = faults.Damaged place
fault_of_opening opens.DiskFault = faults.DiskFault
fault_of_opening opens.Memory = faults.Memory

-- a refusal of a replay of records, as the store's
abbrev pub fault_of_replay : ℕ → ℕ → List Record → ReplayFault → StoreFault
fault_of_replay area side records (replays.NotARecord index) =
    faults.Damaged (told (body_place area side (take index records)))
fault_of_replay area side records (replays.Unsound id) = faults.Unsound id
fault_of_replay area side records replays.Memory = faults.Memory

-- the record that a refusal of a replay names is one of them
abbrev pub IsInside : List Record → ReplayFault → Type 0
IsInside records (replays.NotARecord index) = index ≤ length records
IsInside records (replays.Unsound id) = Unit {0}
IsInside records replays.Memory = Unit {0}

-- The file stands for these contents, with the room that its records take. It is as it was. Over a settled disk the
-- journal keeps the contents.
pub record OpensFile {D : Type 0} {g : Ghosts D} (before : DiskState) (journal : Journal D g)
    (c : Contents) : Type 0 where
  pub stands : ForSome before.content (λ file. (records : List Record) × GiveContents records c
      × HoldsAt Second file (area_of journal) (side_of journal) records
      × (used_of journal ≡ length (listed Second records)))
  pub keeps : IsSettled before → KeepsContents (Some journal) c
  pub alone : LeavesAlone before (state_of journal)

-- The file is refused for what its bytes say, or for a fault of the disk, which has counted it, and is as it was.
pub record IsRefusedFor (before after : DiskState) (refusal : StoreFault) : Type 0 where
  pub cause : ForSome before.content (λ file. IsStoreCause file refusal)
  pub disk_fault : refusal ≡ faults.DiskFault → Rose before.faults after.faults
  pub alone : LeavesAlone before after

module _ {D : Type 0} {g : Ghosts D} where
  -- A store is opened over a disk and stands for its file, or over none and holds nothing.
  abbrev pub Opens : Option D → Option (Journal D g) → Contents → Type 0
  Opens None journal c = (journal ≡ None) × (c ≡ no_contents)
  Opens (Some disk) None c = ⊥
  Opens (Some disk) (Some journal) c = OpensFile (g.state disk) journal c

-- A refusal hands the disk back. Without a disk there is none.
abbrev pub IsRefused : {D : Type 0} → (D → DiskState) → Option D → Option D → StoreFault → Type 0
IsRefused state None after refusal = ⊥
IsRefused state (Some disk) None refusal = ⊥
IsRefused state (Some disk) (Some after) refusal = IsRefusedFor (state disk) (state after) refusal
