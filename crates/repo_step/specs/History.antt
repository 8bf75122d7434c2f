-- Histories of the one-thread repository, and the replies to them in one pass from state to state. This project's own.
use Rattle.std.specs.Prelude.{◌≡◌, ◌≤◌, ℕ, List, [], ◌∷◌, ◌++◌, map, Bool, ◌&&◌, nat_eq, if◌then◌else◌, Option, Some, None, IsSome, unwrap_or}
use Rattle.std.specs.List.{AllByRecursion}
use Rattle.doip_segment.specs.Segments.{Segment}
use Rattle.doip_message.specs.Reply.{Replied, reply_text}
use Rattle.doip_message.specs.Pairs.{Pair, pair}
use Rattle.doip_message.specs.Fixed.{memory_reply, disk_reply, closed_reply}
use Rattle.record_core.specs.declared.change.Change.{Change}
use Rattle.repo_step.specs.declared.brought.Brought.{Brought}
use Rattle.repo_step.specs.declared.outcome.Outcome.{Outcome}
use Rattle.repo_step.specs.declared.outcome.Outcome.TheVariants.{Done, NoMemory, DiskFault, Closed}
use Rattle.repo_step.specs.Setting.{Setting, State}
use Rattle.repo_step.specs.Step.{Plan, step, after_change}

-- one turn: its lane and session, the message, how it ended, when by the disk's clock, and what it brought
pub record Entry : Type 0 where
  pub lane : ℕ
  pub session : ℕ
  pub message : List Segment
  pub outcome : Outcome
  pub moment : ℕ
  pub brought : Brought

-- some entries and a last one, or none
abbrev pub entries_up_to : Option (List Entry × Entry) → List Entry
entries_up_to None = []
entries_up_to (Some parts) = parts.0 ++ parts.1 ∷ []

-- the reply that an outcome fixes; a turn that is done replies as its step does
abbrev pub fixed_reply : Outcome → Option Replied
fixed_reply Done = None
fixed_reply NoMemory = Some memory_reply
fixed_reply DiskFault = Some disk_reply
fixed_reply Closed = Some closed_reply

-- the reply of an outcome, where the step's is this
abbrev pub reply_with : Outcome → Replied → Replied
reply_with outcome made = unwrap_or (fixed_reply outcome) made

-- the state that an outcome leaves, where the turn brought this, planned this, and found this state
abbrev pub state_with : Outcome → Brought → Plan → State → State
state_with Done brought plan before = after_change brought plan.change before
state_with NoMemory brought plan before = before
state_with DiskFault brought plan before = before
state_with Closed brought plan before = before

-- the step of an entry
abbrev pub step_of : Setting → State → Entry → Plan
step_of setting state e = step setting e.brought state e.message

-- the reply to an entry in the state before it
abbrev pub reply : Setting → State → Entry → Replied
reply setting state e = reply_with e.outcome (step_of setting state e).reply

-- the state after an entry
abbrev pub after : Setting → State → Entry → State
after setting state e = state_with e.outcome e.brought (step_of setting state e) state

-- the state after items that give an entry each
abbrev pub state_after : {A : Type 0} → Setting → (A → Entry) → State → List A → State
state_after setting entry_of state [] = state
state_after setting entry_of state (a ∷ more) = state_after setting entry_of (after setting state (entry_of a)) more

-- an entry with the reply to it
pub record Exchange : Type 0 where
  pub entry : Entry
  pub reply : Replied

-- the exchange of an entry in the state before it
abbrev pub exchange_of : Setting → State → Entry → Exchange
exchange_of setting state e = record { entry = e; reply = reply setting state e }

-- Of the items that pass the test, each entry with its reply, in the state that all items before it left.
abbrev pub exchanges_where : {A : Type 0} → Setting → (A → Entry) → (A → Bool) → State → List A → List Exchange
exchanges_where setting entry_of passes state [] = []
exchanges_where setting entry_of passes state (a ∷ more) =
    if passes a
    then exchange_of setting state (entry_of a)
    ∷ exchanges_where setting entry_of passes (after setting state (entry_of a)) more
    else exchanges_where setting entry_of passes (after setting state (entry_of a)) more

-- the exchanges of the entries of a history that pass the test
abbrev pub exchanges_of : Setting → (Entry → Bool) → State → List Entry → List Exchange
exchanges_of setting passes first history = exchanges_where setting (λ e. e) passes first history

-- the state after a history
abbrev pub state_of : Setting → State → List Entry → State
state_of setting first history = state_after setting (λ e. e) first history

-- a message and the text of the reply to it
abbrev pub pair_of : Exchange → Pair
pair_of x = pair x.entry.message (reply_text x.reply)

-- the messages and the texts of the replies of the items that pass
abbrev pub pairs_where : {A : Type 0} → Setting → (A → Entry) → (A → Bool) → State → List A → List Pair
pairs_where setting entry_of passes state items = map pair_of (exchanges_where setting entry_of passes state items)

-- the entry is of this session
abbrev pub is_of : ℕ → ℕ → Entry → Bool
is_of lane session e = nat_eq e.lane lane && nat_eq e.session session

-- the pairs of one session of a history
abbrev pub session_pairs : Setting → State → ℕ → ℕ → List Entry → List Pair
session_pairs setting first lane session history = pairs_where setting (λ e. e) (is_of lane session) first history

-- Moments never fall along items that give an entry each.
abbrev pub MomentsFrom : {A : Type 0} → (A → Entry) → ℕ → List A → Type 0
MomentsFrom entry_of moment [] = Unit {0}
MomentsFrom entry_of moment (a ∷ more) =
    (moment ≤ (entry_of a).moment) × MomentsFrom entry_of (entry_of a).moment more

-- What the outcome of an entry asks of those after it: that they go on, or after a disk fault that each is closed. A
-- disk fault comes only where the step has a change, and no other entry is closed.
abbrev pub GoesOn : Outcome → Option Change → Type 0 → Type 0 → Type 0
GoesOn Done change on closed = on
GoesOn NoMemory change on closed = on
GoesOn DiskFault change on closed = IsSome change × closed
GoesOn Closed change on closed = ⊥

-- every entry found the store closed
abbrev pub AreClosed : {A : Type 0} → (A → Entry) → List A → Type 0
AreClosed entry_of items = AllByRecursion (λ a. (entry_of a).outcome ≡ Closed) items

-- each outcome is one that may come where it stands
abbrev pub OutcomesFrom : {A : Type 0} → Setting → (A → Entry) → State → List A → Type 0
OutcomesFrom setting entry_of state [] = Unit {0}
OutcomesFrom setting entry_of state (a ∷ more) =
    GoesOn (entry_of a).outcome (step_of setting state (entry_of a)).change
    (OutcomesFrom setting entry_of (after setting state (entry_of a)) more) (AreClosed entry_of more)

-- What items that give an entry each keep as a history from a first state: moments never fall, at most one entry met a
-- disk fault, and those after it, and no others, are closed. Done and out of memory may come in every state before.
pub record Legal {A : Type 0} (setting : Setting) (entry_of : A → Entry) (first : State) (items : List A) : Type 0 where
  pub moments : MomentsFrom entry_of 0 items
  pub outcomes : OutcomesFrom setting entry_of first items

-- the outcome is one of a turn without a disk: no disk fault, and never closed
abbrev pub IsWhole : Outcome → Type 0
IsWhole Done = Unit {0}
IsWhole NoMemory = Unit {0}
IsWhole DiskFault = ⊥
IsWhole Closed = ⊥
