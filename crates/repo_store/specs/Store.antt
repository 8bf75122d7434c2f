-- What contracts see of a store, and its turns.
use Rattle.std.specs.Prelude.{◌≡◌, ◌^◌, ◌-◌, ◌≤◌, ℕ, min, List, [], ◌++◌, Option, None, Some, IsSome, unwrap_or, option_map}
use Rattle.base_core.specs.Causes.{Rose}
use Rattle.disk_core.specs.declared.disk.Disk.{Ghosts}
use Rattle.link_core.specs.Listener.{GivesTime}
use Rattle.doip_message.specs.Reply.{reply_text}
use Rattle.journal_core.specs.declared.journal.Journal.{Journal}
use Rattle.journal_core.specs.declared.records.Record.{Record}
use Rattle.record_core.specs.declared.change.Change.{Change}
use Rattle.repo_state.specs.Contents.{Contents}
use Rattle.repo_step.specs.declared.outcome.Outcome.{Outcome}
use Rattle.repo_step.specs.declared.outcome.Outcome.TheVariants.{Done, NoMemory, DiskFault, Closed}
use Rattle.repo_step.specs.Setting.{Setting, State, state}
use Rattle.journal_core.specs.Journal.{one}
use Rattle.record_core.specs.Body.{body}
use Rattle.repo_step.specs.Step.{after_change, next_stamp}
use Rattle.doip_segment.specs.Segments.{Segment}
use Rattle.repo_step.specs.declared.brought.Brought.{Brought}
use Rattle.repo_step.specs.History.{Entry, after, fixed_reply, reply, step_of}
use Rattle.repo_store.specs.declared.work.ReplyText.{ReplyText}
use Rattle.repo_store.specs.declared.work.ReplyText.TheVariants.{Made, Constant}
use Rattle.repo_store.specs.declared.work.Work.{Work}
use Rattle.repo_store.specs.declared.work.Told.{Told}
use Rattle.repo_store.specs.declared.store.Store.{Store}
use Rattle.repo_store.specs.Saved.{room_in, moment_in, faults_in, Reports, KeepsRecords, LeavesBetween, LeavesFrom}
use Rattle.repo_store.specs.Stands.{GiveContents, LeftBy, Stands}

-- What a turn finds or leaves, as far as contracts see it: the journal, the contents of the table, the count of faults
-- at which the store was closed, and the times that the clock gave.
pub record Seen (D : Type 0) (g : Ghosts D) : Type 0 where
  pub journal : Option (Journal D g)
  pub contents : Contents
  pub closed : Option ℕ
  pub given : Option (List ℕ)

-- the entry of a turn
abbrev pub entry_of : ℕ → ℕ → List Segment → Outcome → ℕ → Brought → Entry
entry_of lane session message outcome moment brought = record {
  lane = lane;
  session = session;
  message = message;
  outcome = outcome;
  moment = moment;
  brought = brought;
}

-- the text of the reply to a turn, if the step's is this
abbrev pub text_with : Outcome → List ℕ → List ℕ
text_with outcome made = unwrap_or (option_map reply_text (fixed_reply outcome)) made

-- the record of a change: its number is that after the last, its time that of its turn
abbrev pub record_of : Brought → State → Option Change → List Record
record_of brought s None = []
record_of brought s (Some change) = one (next_stamp brought s) (body change)

-- where the text of the reply to a turn is
abbrev pub place_of : Outcome → ReplyText
place_of Done = Made
place_of NoMemory = Constant
place_of DiskFault = Constant
place_of Closed = Constant

module _ {D : Type 0} {g : Ghosts D} where
  -- what is seen of these parts
  abbrev pub seen : Option (Journal D g) → Contents → Option ℕ → Option (List ℕ) → Seen D g
  seen journal contents closed given =
      record { journal = journal; contents = contents; closed = closed; given = given }

  -- the state of the one-thread repository
  abbrev pub state_in : Seen D g → State
  state_in s = state s.contents (room_in s.journal)

  -- the journal keeps records that give the contents
  abbrev pub KeepsContents : Option (Journal D g) → Contents → Type 0
  KeepsContents journal contents =
      (records : List Record) × KeepsRecords journal records × GiveContents records contents

  -- a store that isn't closed keeps records that give the contents of its table
  abbrev pub IsReady : Seen D g → Type 0
  IsReady s = s.closed ≡ None → KeepsContents s.journal s.contents

  -- the change that the step has at this entry
  abbrev pub change_at : Setting → Seen D g → Entry → Option Change
  change_at setting s e = (step_of setting (state_in s) e).change

  -- the contents after that change
  abbrev pub contents_after : Setting → Seen D g → Entry → Contents
  contents_after setting s e = (after_change e.brought (change_at setting s e) (state_in s)).contents

  -- the record of that change, or none
  abbrev pub record_at : Setting → Seen D g → Entry → List Record
  record_at setting s e = record_of e.brought (state_in s) (change_at setting s e)

  -- How each outcome leaves the store, and its cause. A disk fault comes only where the disk's count rose in this turn
  -- and the step has a change, and closes the store at that count.
  abbrev pub Ends : Outcome → Setting → Seen D g → Entry → Seen D g → Type 0
  Ends Done setting old e new = (old.closed ≡ None) × (new.closed ≡ None)
  Ends NoMemory setting old e new = (old.closed ≡ None) × (new.closed ≡ None) × (new.journal ≡ old.journal)
  Ends DiskFault setting old e new = (old.closed ≡ None)
      × (new.closed ≡ Some (min (faults_in new.journal) (2 ^ 64 - 1)))
      × Rose (faults_in old.journal) (faults_in new.journal)
      × IsSome (change_at setting old e) × IsSome old.journal
  Ends Closed setting old e new = IsSome old.closed × (new.closed ≡ old.closed) × (new.journal ≡ old.journal)

  -- What one turn does: its entry, the text of its reply, the state afterwards, the cause of its outcome, and what a crash
  -- may leave.
  pub record Turns (setting : Setting) (old : Seen D g) (e : Entry) (text : List ℕ) (new : Seen D g) : Type 0 where
    pub time : GivesTime old.given new.given e.brought.time
    pub text_is : text ≡ reply_text (reply setting (state_in old) e)
    pub state_is : state_in new ≡ after setting (state_in old) e
    pub moment : e.moment ≡ moment_in new.journal
    pub clock : moment_in old.journal ≤ moment_in new.journal
    pub count : faults_in old.journal ≤ faults_in new.journal
    pub ends : Ends e.outcome setting old e new
    pub reported : Reports new.journal → Reports old.journal
    -- a turn without a change leaves the journal alone, and one that is done adds the record of its change
    pub unchanged : change_at setting old e ≡ None → new.journal ≡ old.journal
    pub saved : e.outcome ≡ Done → (kept : List Record) → KeepsRecords old.journal kept
        → KeepsRecords new.journal (kept ++ record_at setting old e)
    pub ready : IsReady old → IsReady new
    -- from the moment before the turn to the one after it
    pub crash : IsReady old → old.closed ≡ None → Reports new.journal
        → LeavesBetween old.journal new.journal (LeftBy e.outcome old.contents (contents_after setting old e))
    -- from the turn's moment on, if it is done
    pub durable : IsReady old → e.outcome ≡ Done → Reports new.journal
        → LeavesFrom new.journal e.moment (λ image. Stands image new.contents)

  -- The turn of this work: its entry, its reply, the decoder handed back, and the setting kept.
  pub record IsTurnOf (before after : Setting) (old new : Seen D g) (work : Work) (e : Entry)
      (told : Told) : Type 0 where
    pub setting : after ≡ before
    pub entry : e ≡ entry_of work.lane work.session work.decoder.segments told.outcome told.moment.number told.brought
    pub turns : Turns before old e (text_with told.outcome told.buffer.items) new
    pub text : told.text ≡ place_of told.outcome
    pub decoder : told.decoder ≡ work.decoder

-- what contracts see of a store, of its clock and of its planner
abbrev pub seen_of : {D C P : Type 0} {g : Ghosts D} → (C → Option (List ℕ)) → Store D C P g → Seen D g
seen_of given s = seen s.journal s.table.contents s.closed (given s.clock)

abbrev pub clock_in : {D C P : Type 0} {g : Ghosts D} → Store D C P g → C
clock_in s = s.clock

abbrev pub planner_in : {D C P : Type 0} {g : Ghosts D} → Store D C P g → P
planner_in s = s.planner
