-- The law of runs: what any list of turns of one store leaves. This project's own.
use Rattle.std.specs.Prelude.{◌≡◌, ◌⊎◌, ◌↔◌, ℕ, ◌-◌, ◌^◌, ◌≤◌, min, List, [], ◌∷◌, ◌++◌, map, Option, None, Some, IsSome}
use Rattle.std.specs.List.{AllByRecursion}
use Rattle.std.specs.Option.{ForSome}
use Rattle.base_core.specs.Causes.{Rose}
use Rattle.disk_core.specs.Disk.{DiskState, IsSettled}
use Rattle.disk_core.specs.declared.disk.Disk.{Ghosts}
use Rattle.doip_message.specs.Reply.{reply_text}
use Rattle.history_lock.specs.History.{Runs}
use Rattle.journal_core.specs.declared.journal.Journal.{Journal}
use Rattle.repo_state.specs.Contents.{Contents}
use Rattle.repo_step.specs.declared.outcome.Outcome.TheVariants as outcomes
use Rattle.repo_step.specs.Setting.{Setting}
use Rattle.repo_step.specs.History.{Entry, IsWhole, Legal, MomentsFrom, reply, state_of}
use Rattle.repo_store.specs.Saved.{moment_in, left_in, faults_in, Reports, KeepsPast, LeavesBetween, LeavesFrom}
use Rattle.repo_store.specs.Stands.{Stands}
use Rattle.repo_store.specs.Store.{Seen, state_in, IsReady, Turns}
use Rattle.repo_store.specs.declared.fault.StoreFault.{StoreFault}
use Rattle.repo_store.specs.declared.fault.StoreFault.TheVariants.{DiskFault, Memory}
use Rattle.repo_store.specs.Opening.{IsStoreCause, OpensFile}
use Rattle.repo_store.specs.Survival.{Survives}

-- a turn of the history met a disk fault
abbrev pub HasFault : List Entry → Type 0
HasFault [] = ⊥
HasFault (e ∷ es) = (e.outcome ≡ outcomes.DiskFault) ⊎ HasFault es

-- a clock that still reports the times that it has given has given these after all those before
abbrev pub GivesTimes : Option (List ℕ) → Option (List ℕ) → List ℕ → Type 0
GivesTimes old new times =
    ForSome new (λ given. (before : List ℕ) × (old ≡ Some before) × (given ≡ before ++ times))

module _ {D : Type 0} {g : Ghosts D} where
  -- a turn of this entry, with some text
  abbrev pub IsTurn : Setting → Seen D g → Entry → Seen D g → Type 0
  IsTurn setting old e new = (text : List ℕ) × Turns setting old e text new

  -- what a list of turns leaves
  pub record Leaves (setting : Setting) (first : Seen D g) (history : List Entry) (last : Seen D g) : Type 0 where
    pub state : state_in last ≡ state_of setting (state_in first) history
    pub times : GivesTimes first.given last.given (map (λ e. e.brought.time) history)
    pub moments : MomentsFrom (λ e. e) (moment_in first.journal) history
    pub within : AllByRecursion (λ e. e.moment ≤ moment_in last.journal) history
    pub clock : moment_in first.journal ≤ moment_in last.journal
    pub count : faults_in first.journal ≤ faults_in last.journal
    pub reported : Reports last.journal → Reports first.journal
    pub ready : IsReady first → IsReady last

  -- what it leaves if the store was not closed at first
  pub record LeavesOpen (setting : Setting) (first : Seen D g) (history : List Entry) (last : Seen D g) : Type 0 where
    pub legal : Legal setting (λ e. e) (state_in first) history
    pub cause : HasFault history → Rose (faults_in first.journal) (faults_in last.journal)
        × (last.closed ≡ Some (min (faults_in last.journal) (2 ^ 64 - 1)))
    pub closed : IsSome last.closed → HasFault history
    pub whole : first.journal ≡ None → AllByRecursion (λ e. IsWhole e.outcome) history
    pub past : IsReady first → Reports last.journal → KeepsPast first.journal last.journal
    pub survives : IsReady first → Reports last.journal
        → Survives last.journal (moment_in first.journal) setting (state_in first) history

  -- From a disk to a store over it: what a crash might have left before is the same, and each image since then stands
  -- for the contents of the store.
  pub record Since (start : DiskState) (now : Option (Journal D g)) (c : Contents) : Type 0 where
    pub later : start.moment ≤ moment_in now
    pub same : (moment : ℕ) (image : List ℕ) → moment ≤ start.moment
        → start.image_at moment image ↔ left_in now moment image
    pub each : LeavesFrom now start.moment (λ image. Stands image c)

  -- A call that keeps the contents: each image stands for them.
  pub record Rewrites (old new : Seen D g) : Type 0 where
    pub contents : new.contents ≡ old.contents
    pub given : new.given ≡ old.given
    pub clock : moment_in old.journal ≤ moment_in new.journal
    pub count : faults_in old.journal ≤ faults_in new.journal
    pub reported : Reports new.journal → Reports old.journal
    pub ready : IsReady old → IsReady new
    pub crash : IsReady old → old.closed ≡ None → Reports new.journal
        → LeavesBetween old.journal new.journal (λ image. Stands image old.contents)

-- any list of turns leaves this, and each reply is that of its entry
pub record LawOfRuns {D : Type 0} (g : Ghosts D) : Type 0 where
  pub leaves : (setting : Setting) (first last : Seen D g) (history : List Entry)
      → Runs (IsTurn setting) first history last → Leaves setting first history last
  pub from_open : (setting : Setting) (first last : Seen D g) (history : List Entry) → first.closed ≡ None
      → Runs (IsTurn setting) first history last → LeavesOpen setting first history last
  pub reply : (setting : Setting) (first old new : Seen D g) (history : List Entry) (e : Entry) (text : List ℕ)
      → Runs (IsTurn setting) first history old → Turns setting old e text new
      → text ≡ reply_text (reply setting (state_of setting (state_in first) history) e)

-- The law reaches back to the disk that was opened, also across calls that kept the contents since.
pub record LawSince {D : Type 0} (g : Ghosts D) : Type 0 where
  pub opens : (start : D) (journal : Journal D g) (c : Contents) → OpensFile (g.state start) journal c
      → IsSettled (g.state start) → Reports (Some journal) → Since (g.state start) (Some journal) c
  pub survives : (start : D) (setting : Setting) (first last : Seen D g) (history : List Entry) → first.closed ≡ None
      → IsReady first → Since (g.state start) first.journal first.contents
      → Runs (IsTurn setting) first history last → Reports last.journal
      → Survives last.journal (g.state start).moment setting (state_in first) history
  pub past : (start : D) (setting : Setting) (first last : Seen D g) (history : List Entry) → first.closed ≡ None
      → IsReady first → Since (g.state start) first.journal first.contents
      → Runs (IsTurn setting) first history last → Reports last.journal
      → (moment : ℕ) (image : List ℕ) → moment ≤ (g.state start).moment
      → (g.state start).image_at moment image ↔ left_in last.journal moment image
  pub rewrites : (start : D) (old new : Seen D g) → IsReady old → old.closed ≡ None → Reports new.journal
      → Since (g.state start) old.journal old.contents → Rewrites old new
      → Since (g.state start) new.journal new.contents

-- A file that stands for contents is refused for the disk or for memory alone, and stands for those contents alone.
pub record LawOfReopening : Type 0 where
  pub refused : (file : List ℕ) (c : Contents) (fault : StoreFault) → Stands file c → IsStoreCause file fault
      → (fault ≡ DiskFault) ⊎ (fault ≡ Memory)
  pub same : (file : List ℕ) (c other : Contents) → Stands file c → Stands file other → c ≡ other
