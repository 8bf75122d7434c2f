-- What bringing a file of format 1 over to format 2 does. This project's own.
use Rattle.std.specs.Prelude.{◌≡◌, ◌≢◌, ◌⊎◌, ◌+◌, ℕ, List, length, take, None, Some, Result, Ok, Err, if◌then◌else◌, nat_eq}
use Rattle.std.specs.FinMap as finite
use Rattle.std.specs.Option.{ForSome}
use Rattle.disk_core.specs.Disk.{DiskState}
use Rattle.disk_core.specs.Runs.{LeavesAlone}
use Rattle.journal_core.specs.File.{HoldsAt, Holds, HasVersion, IsDamaged, IsNotAStore, base_of, listed}
use Rattle.journal_core.specs.Journal.{told}
use Rattle.journal_core.specs.Layout.{fields_length}
use Rattle.journal_core.specs.declared.layout.Format.TheVariants.{First}
use Rattle.journal_core.specs.declared.open.OpenFault.{OpenFault}
use Rattle.journal_core.specs.declared.open.OpenFault.TheVariants as opens
use Rattle.journal_core.specs.declared.records.Record.{Record}
use Rattle.record_core.specs.declared.format.Format.TheVariants as bodies
use Rattle.repo_state.specs.Contents.{Contents}
use Rattle.repo_state.specs.Replayed.{AreReplayed, IsFirstOther, migrated}
use Rattle.repo_state.specs.Sound.{least_unsound}
use Rattle.repo_state.specs.declared.replay.ReplayFault.{ReplayFault}
use Rattle.repo_state.specs.declared.replay.ReplayFault.TheVariants as replays
use Rattle.repo_store.specs.declared.fault.StoreFault.{StoreFault}
use Rattle.repo_store.specs.declared.fault.StoreFault.TheVariants as stores
use Rattle.store_files.specs.declared.fault.RewriteFault.{RewriteFault}
use Rattle.store_files.specs.declared.fault.RewriteFault.TheVariants as faults
use Rattle.store_files.specs.declared.migration.Migration.{Migration}
use Rattle.store_files.specs.declared.migration.Migration.TheVariants.{Done, Already}
use Rattle.store_files.specs.Rewriting.{Rewriting, IsAnew, IsNotAnew}

-- Records of format 1 give these contents, all objects of which are sound: their changes are made, and count as one.
abbrev pub IsGiven : List Record → Contents → Type 0
IsGiven kept c = (d : Contents) × AreReplayed bodies.First kept d × (least_unsound d.objects ≡ None) × (c ≡ migrated d)

-- the file has a list of format 1 that gives the contents
abbrev pub GivesInFirst : Rewriting → List ℕ → Type 0
GivesInFirst r file = (kept : List Record) × HoldsAt First file r.area r.side kept × IsGiven kept r.contents

-- where the body of the next record begins: after these records, its gate and its length
abbrev pub body_place : ℕ → ℕ → List Record → ℕ
body_place area side kept = base_of area side + length (listed First kept) + 1 + fields_length First

-- the file holds records, and at this place begins the first body that is that of no change
pub record HasOtherBody (file : List ℕ) (place : ℕ) : Type 0 where
  pub records : List Record
  pub area : ℕ
  pub side : ℕ
  pub holds : HoldsAt First file area side records
  pub index : ℕ
  pub is : IsFirstOther bodies.First records index
  pub place_is : place ≡ told (body_place area side (take index records))

-- the file holds records of changes, after which the object of this identifier is the least that isn't sound
abbrev pub IsUnsound : List ℕ → List ℕ → Type 0
IsUnsound file id = (records : List Record) × Holds First file records
    × (c : Contents) × AreReplayed bodies.First records c × (least_unsound c.objects ≡ Some id)

-- What each refusal says of the file. A file of format 2 isn't refused.
abbrev pub IsFirstCause : List ℕ → StoreFault → Type 0
IsFirstCause file stores.NotAStore = IsNotAStore file
IsFirstCause file (stores.Version byte) = HasVersion First file byte × (byte ≢ 2)
IsFirstCause file (stores.Damaged place) = IsDamaged First file place ⊎ HasOtherBody file place
IsFirstCause file (stores.Unsound id) = IsUnsound file id
IsFirstCause file stores.DiskFault = Unit {0}
IsFirstCause file stores.Memory = Unit {0}

-- What becomes of a file that isn't read as one of format 1: one of format 2 is left, and another is refused.
abbrev pub unread : OpenFault → Result Migration RewriteFault
unread opens.NotAStore = Err (faults.Store stores.NotAStore)
unread (opens.Version byte) = if nat_eq byte 2 then Ok Already else Err (faults.Store (stores.Version byte))
unread (opens.Damaged place) = Err (faults.Store (stores.Damaged place))
unread opens.DiskFault = Err (faults.Store stores.DiskFault)
unread opens.Memory = Err (faults.Store stores.Memory)

-- a refusal of a replay of records, as the store's
abbrev pub fault_of_replay : ℕ → ℕ → List Record → ReplayFault → StoreFault
fault_of_replay area side records (replays.NotARecord index) =
    stores.Damaged (told (body_place area side (take index records)))
fault_of_replay area side records (replays.Unsound id) = stores.Unsound id
fault_of_replay area side records replays.Memory = stores.Memory

-- What bringing a file over does: a crash at any moment leaves the list of format 1 or that of format 2, of the same
-- contents.
abbrev pub Migrates : DiskState → DiskState → Result Migration RewriteFault → Type 0
Migrates before after (Ok (Done objects)) = (r : Rewriting) × IsAnew GivesInFirst before after r
    × (objects ≡ finite.len r.contents.objects)
Migrates before after (Ok Already) = ForSome before.content (λ file. HasVersion First file 2) × LeavesAlone before after
Migrates before after (Err fault) = IsNotAnew GivesInFirst before after IsFirstCause fault
