-- The changes of a history, which of them were acknowledged, and what of them survives a crash. This project's own.
use Rattle.std.specs.Prelude.{ℕ, ◌≤◌, leb, List, [], ◌∷◌, ◌++◌, length, take, fold, Bool, true, false, ◌&&◌, if◌then◌else◌, Option, None, Some}
use Rattle.disk_core.specs.declared.disk.Disk.{Ghosts}
use Rattle.journal_core.specs.declared.journal.Journal.{Journal}
use Rattle.record_core.specs.declared.change.Change.{Change}
use Rattle.repo_state.specs.Contents.{Contents, Stamped, apply}
use Rattle.repo_step.specs.declared.brought.Brought.{Brought}
use Rattle.repo_step.specs.declared.outcome.Outcome.{Outcome}
use Rattle.repo_step.specs.declared.outcome.Outcome.TheVariants.{Done, NoMemory, DiskFault, Closed}
use Rattle.repo_step.specs.Setting.{Setting, State}
use Rattle.repo_step.specs.Step.{next_stamp}
use Rattle.repo_step.specs.History.{Entry, after, step_of}
use Rattle.repo_store.specs.Saved.{left_in, moment_in}
use Rattle.repo_store.specs.Stands.{Stands}

-- a turn that is done
abbrev pub is_done : Outcome → Bool
is_done Done = true
is_done NoMemory = false
is_done DiskFault = false
is_done Closed = false

-- a turn that met a disk fault
abbrev pub is_fault : Outcome → Bool
is_fault Done = false
is_fault NoMemory = false
is_fault DiskFault = true
is_fault Closed = false

-- a change, if there is one, with the number after the last and the time of its turn
abbrev pub stamped : Brought → State → Option Change → List Stamped
stamped brought s None = []
stamped brought s (Some change) = record { stamp = next_stamp brought s; change = change } ∷ []

-- the change of an entry in the state before it, or none
abbrev pub change_of : Setting → State → Entry → List Stamped
change_of setting s e = stamped e.brought s (step_of setting s e).change

-- the changes of those entries of a history that pass the test, in order
abbrev pub changes_where : (Entry → Bool) → Setting → State → List Entry → List Stamped
changes_where passes setting s [] = []
changes_where passes setting s (e ∷ es) =
    if passes e then change_of setting s e ++ changes_where passes setting (after setting s e) es
    else changes_where passes setting (after setting s e) es

-- the changes of a history: those of the turns that are done, and then that of the turn that met a disk fault
abbrev pub changes : Setting → State → List Entry → List Stamped
changes setting first history = changes_where (λ e. is_done e.outcome) setting first history
    ++ changes_where (λ e. is_fault e.outcome) setting first history

-- how many changes were acknowledged by that moment
abbrev pub acknowledged : Setting → State → List Entry → ℕ → ℕ
acknowledged setting first history moment =
    length (changes_where (λ e. is_done e.outcome && leb e.moment moment) setting first history)

-- contents with these changes, one after another
abbrev pub changed : Contents → List Stamped → Contents
changed = fold (λ before s. apply s before)

-- The image stands for the first contents with a prefix of the changes of a history, in which are all that were
-- acknowledged by that moment.
pub record StandsForPrefix (image : List ℕ) (setting : Setting) (first : State) (history : List Entry)
    (moment : ℕ) : Type 0 where
  pub made : ℕ
  pub all : acknowledged setting first history moment ≤ made
  pub within : made ≤ length (changes setting first history)
  pub stands : Stands image (changed first.contents (take made (changes setting first history)))

-- At each moment since then, up to now, each image that a crash may leave stands for such a prefix.
abbrev pub Survives : {D : Type 0} {g : Ghosts D} → Option (Journal D g) → ℕ → Setting → State → List Entry → Type 0
Survives now since setting first history = (moment : ℕ) (image : List ℕ) → since ≤ moment → moment ≤ moment_in now
    → left_in now moment image → StandsForPrefix image setting first history moment
