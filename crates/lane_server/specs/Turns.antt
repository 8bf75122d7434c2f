-- The turns that a lock takes on a store, as turns of that store. This project's own.
use Rattle.std.specs.Prelude.{◌≡◌, ℕ, List, Option}
use Rattle.disk_core.specs.declared.disk.Disk.{Ghosts}
use Rattle.history_lock.specs.History.{Leads, Runs}
use Rattle.repo_step.specs.Setting.{Setting, State}
use Rattle.repo_step.specs.History.{Entry}
use Rattle.repo_store.specs.declared.store.Store.{Store}
use Rattle.repo_store.specs.declared.work.Work.{Work}
use Rattle.repo_store.specs.declared.work.Told.{Told}
use Rattle.repo_store.specs.Law.{IsTurn}
use Rattle.repo_store.specs.Store.{IsTurnOf, planner_in, seen_of, state_in}

-- what the turns of a history begin with: the setting, which none changes, and the first state
pub record Start : Type 0 where
  pub setting : Setting
  pub first : State

module _ {D C P : Type 0} {g : Ghosts D} (given : C → Option (List ℕ)) (setting_of : P → Setting) where
  -- a turn of the store, as its lock takes it
  abbrev pub TakesTurn : Store D C P g → Work → Entry → Told → Store D C P g → Type 0
  TakesTurn old work e told new =
      IsTurnOf (setting_of (planner_in old)) (setting_of (planner_in new)) (seen_of given old) (seen_of given new) work
      e told

  -- what the turns of this store begin with
  abbrev pub start_of : Store D C P g → Start
  start_of store = record { setting = setting_of (planner_in store); first = state_in (seen_of given store) }

-- Turns that a lock took on a store are turns of that store in one setting.
pub record LawOfTurns {D C P : Type 0} (g : Ghosts D) (given : C → Option (List ℕ))
    (setting_of : P → Setting) : Type 0 where
  pub setting : (first last : Store D C P g) (history : List Entry)
      → Runs (Leads (TakesTurn given setting_of)) first history last
      → setting_of (planner_in last) ≡ setting_of (planner_in first)
  pub runs : (first last : Store D C P g) (history : List Entry)
      → Runs (Leads (TakesTurn given setting_of)) first history last
      → Runs (IsTurn (setting_of (planner_in first))) (seen_of given first) history (seen_of given last)
