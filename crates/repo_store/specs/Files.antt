-- What a list of turns leaves of the file that its store was opened over. This project's own.
use Rattle.std.specs.Prelude.{◌≡◌, ◌≤◌, ◌-◌, ◌^◌, ℕ, min, List, length, Option, None, Some, IsSome}
use Rattle.std.specs.List.{AllByRecursion}
use Rattle.std.specs.Option.{ForSome}
use Rattle.base_core.specs.Causes.{Rose}
use Rattle.disk_core.specs.Disk.{DiskState, IsSettled, SamePast}
use Rattle.disk_core.specs.declared.disk.Disk.{Ghosts}
use Rattle.history_lock.specs.History.{Runs}
use Rattle.journal_core.specs.File.{HoldsAt, listed}
use Rattle.journal_core.specs.declared.journal.Journal.{Journal}
use Rattle.journal_core.specs.declared.layout.Format.TheVariants.{Second}
use Rattle.journal_core.specs.declared.records.Record.{Record}
use Rattle.repo_state.specs.Contents.{Contents}
use Rattle.repo_step.specs.Setting.{Setting, State, state}
use Rattle.repo_step.specs.History.{Entry, IsWhole, MomentsFrom}
use Rattle.repo_store.specs.Law.{HasFault, IsTurn}
use Rattle.repo_store.specs.Opening.{OpensFile}
use Rattle.repo_store.specs.Saved.{disk_in, room_in}
use Rattle.repo_store.specs.Stands.{GiveContents}
use Rattle.repo_store.specs.Store.{Seen, seen}
use Rattle.repo_store.specs.Survival.{StandsForPrefix}

-- The file stands for this state: its list gives the contents, and the room is that of its list.
pub record IsStateOf (file : List ℕ) (s : State) : Type 0 where
  pub records : List Record
  pub area : ℕ
  pub side : ℕ
  pub holds : HoldsAt Second file area side records
  pub give : GiveContents records s.contents
  pub room : s.room ≡ Some (record { used = length (listed Second records); area = area })

-- At each moment since then, up to now, each image that a crash may leave stands for a prefix of the changes, with every
-- acknowledged change.
abbrev pub SurvivesOn : DiskState → ℕ → Setting → State → List Entry → Type 0
SurvivesOn now since setting first history = (moment : ℕ) (image : List ℕ) → since ≤ moment → moment ≤ now.moment
    → now.image_at moment image → StandsForPrefix image setting first history moment

-- Turns of a store: its setting and its first state, their history, and the count of the disk's faults at which the
-- store was closed by them, if it was.
pub record TurnsTaken : Type 0 where
  pub setting : Setting
  pub first : State
  pub history : List Entry
  pub closed : Option ℕ

abbrev pub turns_taken : Setting → State → List Entry → Option ℕ → TurnsTaken
turns_taken setting first history closed =
    record { setting = setting; first = first; history = history; closed = closed }

-- From the disk that a store was opened over to the one that it hands back: the first state is that of the file, and each
-- crash leaves a prefix of the changes. The moments of the turns are of this disk, between the two, and never fall. The
-- store is closed exactly if a turn met a disk fault, which the disk has counted.
pub record RanOver (start last : DiskState) (turns : TurnsTaken) : Type 0 where
  pub stands : ForSome start.content (λ file. IsStateOf file turns.first)
  pub survives : IsSettled start
      → ForSome last.content (λ _. SurvivesOn last start.moment turns.setting turns.first turns.history)
  pub same : IsSettled start → ForSome last.content (λ _. SamePast start last)
  pub moments : MomentsFrom (λ e. e) start.moment turns.history
  pub within : AllByRecursion (λ e. e.moment ≤ last.moment) turns.history
  pub fault : HasFault turns.history
      → Rose start.faults last.faults × (turns.closed ≡ Some (min last.faults (2 ^ 64 - 1)))
  pub closed : IsSome turns.closed → HasFault turns.history
  pub count : start.faults ≤ last.faults
  pub clock : start.moment ≤ last.moment

-- Turns without a disk: there is no disk's clock, no turn meets a disk fault, and none finds the store closed.
pub record IsDiskless (turns : TurnsTaken) : Type 0 where
  pub moments : AllByRecursion (λ e. e.moment ≡ 0) turns.history
  pub whole : AllByRecursion (λ e. IsWhole e.outcome) turns.history
  pub not_closed : turns.closed ≡ None

-- what turns leave of the disk of a store that was just opened, or of a store without one
pub record LawOfFiles {D : Type 0} (g : Ghosts D) : Type 0 where
  pub over : (start : D) (journal : Journal D g) (c : Contents) (given : Option (List ℕ)) (setting : Setting)
      (last : Seen D g) (history : List Entry) → OpensFile (g.state start) journal c
      → Runs (IsTurn setting) (seen (Some journal) c None given) history last
      → (disk : D) × (disk_in last.journal ≡ Some disk)
      × RanOver (g.state start) (g.state disk)
      (turns_taken setting (state c (room_in (Some journal))) history last.closed)
  pub without : (c : Contents) (given : Option (List ℕ)) (setting : Setting) (last : Seen D g) (history : List Entry)
      → Runs (IsTurn setting) (seen None c None given) history last
      → (disk_in last.journal ≡ None) × IsDiskless (turns_taken setting (state c None) history last.closed)
