-- What is done to a file as a whole: its contents are written anew, into the area that doesn't count. This project's own.
use Rattle.std.specs.Prelude.{◌≡◌, ◌⊎◌, ◌≤◌, ◌+◌, ℕ, List, Result, Ok, Err}
use Rattle.std.specs.Option.{ForSome}
use Rattle.base_core.specs.Causes.{Rose}
use Rattle.disk_core.specs.Disk.{DiskState, IsSettled}
use Rattle.disk_core.specs.Runs.{LeavesAlone, LeavesOnly}
use Rattle.journal_core.specs.File.{HoldsAt}
use Rattle.journal_core.specs.Journal.{room_for, told}
use Rattle.journal_core.specs.Turn.{IsTooLong, other_side, turned}
use Rattle.journal_core.specs.declared.journal.Room.{Room}
use Rattle.journal_core.specs.declared.layout.Format.TheVariants.{Second}
use Rattle.journal_core.specs.declared.records.Record.{Record}
use Rattle.record_core.specs.declared.format.Format.TheVariants as bodies
use Rattle.repo_state.specs.Compacted.{compacted}
use Rattle.repo_state.specs.Contents.{Contents}
use Rattle.repo_state.specs.Recorded.{AreRecordsOf}
use Rattle.repo_store.specs.Opening.{IsStoreCause}
use Rattle.repo_store.specs.Stands.{GiveContents}
use Rattle.repo_store.specs.declared.fault.StoreFault.{StoreFault}
use Rattle.repo_store.specs.declared.fault.StoreFault.TheVariants as stores
use Rattle.store_files.specs.declared.fault.RewriteFault.{RewriteFault}
use Rattle.store_files.specs.declared.fault.RewriteFault.TheVariants as faults

-- Contents of a file, the area of which side they stand in, and the records as which they are written anew.
pub record Rewriting : Type 0 where
  pub contents : Contents
  pub area : ℕ
  pub side : ℕ
  pub records : List Record

-- the file has a list that gives the contents
abbrev pub GivesContents : Rewriting → List ℕ → Type 0
GivesContents r file = (kept : List Record) × HoldsAt Second file r.area r.side kept × GiveContents kept r.contents

-- the other area has the new records
abbrev pub HoldsAnew : Rewriting → List ℕ → Type 0
HoldsAnew r file = HoldsAt Second file r.area (other_side r.side) r.records

-- The new records are the shortest list that gives the contents: the counter, and each object by ascending identifier.
pub record IsShortest (r : Rewriting) : Type 0 where
  pub are : AreRecordsOf bodies.Second r.records (compacted r.contents)
  pub give : GiveContents r.records r.contents

-- the room of an area that has these records alone
abbrev pub room_of : Rewriting → Room
room_of r = record { used = 1 + room_for r.records; area = r.area }

module _ (Stood : Rewriting → List ℕ → Type 0) (before after : DiskState) where
  -- A file is written anew: it stood for the contents, and a crash at any moment leaves such a file, or the new records.
  pub record WritesAnew (r : Rewriting) : Type 0 where
    pub shortest : IsShortest r
    pub stood : ForSome before.content (Stood r)
    pub fits : IsTooLong r.area r.records → ⊥
    pub crash : IsSettled before → ForSome after.content (λ _.
        LeavesOnly before after (λ image. Stood r image ⊎ HoldsAnew r image))
    pub count : before.faults ≤ after.faults
    pub clock : before.moment ≤ after.moment

  -- It was written anew: it is the old file with the other area written and then the side byte, and each image that a
  -- crash leaves from now on is the file.
  pub record IsAnew (r : Rewriting) : Type 0 where
    pub writes : WritesAnew r
    pub bytes : ForSome after.content (λ now. ForSome before.content (λ file.
        now ≡ turned r.area r.side r.records file))
    pub holds : IsSettled before → ForSome after.content (HoldsAnew r)
    pub settled : IsSettled before → IsSettled after

  -- The new records don't fit into an area, and the file is as it was.
  pub record LacksRoom (used asked : ℕ) : Type 0 where
    pub rewriting : Rewriting
    pub shortest : IsShortest rewriting
    pub stood : ForSome before.content (Stood rewriting)
    pub long : IsTooLong rewriting.area rewriting.records
    pub used_is : used ≡ 2
    pub asked_is : asked ≡ told (room_for rewriting.records)
    pub alone : LeavesAlone before after

  -- the file is refused for what its bytes say, and is as it was
  abbrev pub IsRefusedFor : (List ℕ → StoreFault → Type 0) → StoreFault → Type 0
  IsRefusedFor Cause fault = ForSome before.content (λ file. Cause file fault) × LeavesAlone before after

  -- Why it was not written anew. The disk may have failed as the file was read, or as it was written.
  abbrev pub IsNotAnew : (List ℕ → StoreFault → Type 0) → RewriteFault → Type 0
  IsNotAnew Cause (faults.Full used asked) = LacksRoom used asked
  IsNotAnew Cause (faults.Store stores.DiskFault) =
      Rose before.faults after.faults × (LeavesAlone before after ⊎ ((r : Rewriting) × WritesAnew r))
  IsNotAnew Cause (faults.Store stores.Memory) = LeavesAlone before after
  IsNotAnew Cause (faults.Store stores.NotAStore) = IsRefusedFor Cause stores.NotAStore
  IsNotAnew Cause (faults.Store (stores.Version byte)) = IsRefusedFor Cause (stores.Version byte)
  IsNotAnew Cause (faults.Store (stores.Damaged place)) = IsRefusedFor Cause (stores.Damaged place)
  IsNotAnew Cause (faults.Store (stores.Unsound id)) = IsRefusedFor Cause (stores.Unsound id)

-- What compacting a file does: the list before it and the new one give the same contents.
abbrev pub Compacts : DiskState → DiskState → Result Room RewriteFault → Type 0
Compacts before after (Ok room) = (r : Rewriting) × IsAnew GivesContents before after r × (room ≡ room_of r)
Compacts before after (Err fault) = IsNotAnew GivesContents before after IsStoreCause fault
