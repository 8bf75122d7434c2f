-- What a list of turns leaves of a file that its store was opened over and then shrunk. This project's own.
use Rattle.std.specs.Prelude.{◌≡◌, ◌⊎◌, ◌≤◌, ◌-◌, ◌^◌, ℕ, min, List, length, Option, None, Some, IsSome}
use Rattle.std.specs.List.{AllByRecursion}
use Rattle.std.specs.Option.{ForSome}
use Rattle.base_core.specs.Causes.{Rose}
use Rattle.disk_core.specs.Disk.{DiskState, IsSettled, SamePast}
use Rattle.disk_core.specs.declared.disk.Disk.{Ghosts}
use Rattle.history_lock.specs.History.{Runs}
use Rattle.journal_core.specs.File.{HoldsAt, listed}
use Rattle.journal_core.specs.declared.journal.Journal.{Journal}
use Rattle.journal_core.specs.declared.journal.Room.{Room}
use Rattle.journal_core.specs.declared.layout.Format.TheVariants.{Second}
use Rattle.journal_core.specs.declared.records.Record.{Record}
use Rattle.repo_state.specs.Contents.{Contents}
use Rattle.repo_step.specs.History.{Entry, MomentsFrom}
use Rattle.repo_step.specs.Setting.{Setting, State}
use Rattle.repo_store.specs.Compaction.{Shrinks, WantsCompaction, compacted_room}
use Rattle.repo_store.specs.Files.{SurvivesOn, TurnsTaken, turns_taken}
use Rattle.repo_store.specs.Law.{HasFault, IsTurn, Rewrites}
use Rattle.repo_store.specs.Opening.{OpensFile}
use Rattle.repo_store.specs.Saved.{disk_in}
use Rattle.repo_store.specs.Stands.{GiveContents}
use Rattle.repo_store.specs.Store.{Seen, seen, state_in}

-- the room that opening leaves: that of the compacted list if a compaction is wanted, else that of the file's list
abbrev pub IsRoomLeft : Room → Contents → Option Room → Type 0
IsRoomLeft found c left = (WantsCompaction (Some found) c × (left ≡ Some (compacted_room found.area c)))
    ⊎ ((WantsCompaction (Some found) c → ⊥) × (left ≡ Some found))

-- The file stands for this state: its list gives the contents, and the room is what opening leaves of it.
pub record IsShrunkStateOf (file : List ℕ) (s : State) : Type 0 where
  pub records : List Record
  pub area : ℕ
  pub side : ℕ
  pub holds : HoldsAt Second file area side records
  pub give : GiveContents records s.contents
  pub room : IsRoomLeft (record { used = length (listed Second records); area = area }) s.contents s.room

-- From the disk that a store was opened over to the one that it hands back, with a shrink before the first turn: the
-- first state is that of the file, and each crash since the opening leaves a prefix of the changes. The moments of the
-- turns are of this disk, between the two, and never fall. The store is closed exactly if a turn met a disk fault, which
-- the disk has counted.
pub record RanShrunk (start last : DiskState) (turns : TurnsTaken) : Type 0 where
  pub stands : ForSome start.content (λ file. IsShrunkStateOf file turns.first)
  pub survives : IsSettled start
      → ForSome last.content (λ _. SurvivesOn last start.moment turns.setting turns.first turns.history)
  pub same : IsSettled start → ForSome last.content (λ _. SamePast start last)
  pub moments : MomentsFrom (λ e. e) start.moment turns.history
  pub within : AllByRecursion (λ e. e.moment ≤ last.moment) turns.history
  pub fault : HasFault turns.history
      → Rose start.faults last.faults × (turns.closed ≡ Some (min last.faults (2 ^ 64 - 1)))
  pub closed : IsSome turns.closed → HasFault turns.history
  pub count : start.faults ≤ last.faults
  pub clock : start.moment ≤ last.moment

-- what turns leave of the disk of a store that was just opened and then shrunk
pub record LawOfShrunkFiles {D : Type 0} (g : Ghosts D) : Type 0 where
  pub over : (start : D) (journal : Journal D g) (c : Contents) (given : Option (List ℕ)) (setting : Setting)
      (first last : Seen D g) (left : Room) (history : List Entry) → OpensFile (g.state start) journal c
      → Rewrites (seen (Some journal) c None given) first → Shrinks (seen (Some journal) c None given) first left
      → Runs (IsTurn setting) first history last
      → (disk : D) × (disk_in last.journal ≡ Some disk)
      × RanShrunk (g.state start) (g.state disk) (turns_taken setting (state_in first) history last.closed)
