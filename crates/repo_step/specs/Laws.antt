-- What the laws of the step and of histories say. This project's own.
use Rattle.std.specs.Prelude.{◌≡◌, ◌≢◌, ◌<◌, ℕ, List, [], ◌∷◌, ◌++◌, Bool, true, false, None}
use Rattle.std.specs.List.{AllByRecursion}
use Rattle.doip_segment.specs.Segments.{Segment}
use Rattle.doip_message.specs.Reply.{Replied, reply_text}
use Rattle.doip_message.specs.Fixed.{memory_reply, disk_reply, closed_reply, framing_reply}
use Rattle.record_core.specs.declared.change.Change.{Change}
use Rattle.record_core.specs.Storable.{IsStorable}
use Rattle.repo_state.specs.Contents.{apply}
use Rattle.repo_state.specs.Sound.{IsConsistent}
use Rattle.repo_step.specs.declared.brought.Brought.{Brought}
use Rattle.repo_step.specs.declared.outcome.Outcome.{Outcome}
use Rattle.repo_step.specs.Setting.{Setting, State}
use Rattle.repo_step.specs.operations.Limits.{last_number, lacking}
use Rattle.repo_step.specs.Step.{next_stamp}
use Rattle.repo_step.specs.History.{Entry, exchange_of, exchanges_of, state_of, is_of}

-- The text of the reply is none of the fixed texts.
pub record IsNoFixedText (p : Replied) : Type 0 where
  pub memory : reply_text p ≢ reply_text memory_reply
  pub disk : reply_text p ≢ reply_text disk_reply
  pub closed : reply_text p ≢ reply_text closed_reply
  pub framing : reply_text p ≢ reply_text framing_reply

-- Along two lists of entries, the second begins in the state that the first left.
pub record Continues (setting : Setting) (passes : Entry → Bool) (first : State)
    (before later : List Entry) : Type 0 where
  pub state : state_of setting first (before ++ later) ≡ state_of setting (state_of setting first before) later
  pub exchanges : exchanges_of setting passes first (before ++ later)
      ≡ exchanges_of setting passes first before ++ exchanges_of setting passes (state_of setting first before) later

-- One more entry that passes adds its exchange.
abbrev pub AddsOne : Setting → (Entry → Bool) → State → List Entry → Entry → Type 0
AddsOne setting passes first before e =
    exchanges_of setting passes first (before ++ e ∷ [])
    ≡ exchanges_of setting passes first before ++ exchange_of setting (state_of setting first before) e ∷ []

-- what the reply to an entry depends on, beside the state before it
pub record Cause : Type 0 where
  pub message : List Segment
  pub outcome : Outcome
  pub brought : Brought

-- the cause of the reply to an entry
abbrev pub cause_of : Entry → Cause
cause_of e = record { message = e.message; outcome = e.outcome; brought = e.brought }

-- All entries are of this session.
abbrev pub IsAllOf : ℕ → ℕ → List Entry → Type 0
IsAllOf lane session history = AllByRecursion (λ e. is_of lane session e ≡ true) history

-- No entry passes the test.
abbrev pub NonePasses : (Entry → Bool) → List Entry → Type 0
NonePasses passes history = AllByRecursion (λ e. passes e ≡ false) history

-- The change can be made in the state: its counter is in range, there is a number for it, its record finds room in the
-- area, and what it leaves is consistent.
pub record CanFollow (brought : Brought) (s : State) (change : Change) : Type 0 where
  pub storable : IsStorable change
  pub numbered : s.contents.number < last_number
  pub room : lacking s.room change ≡ None
  pub consistent : IsConsistent (apply (record { stamp = next_stamp brought s; change = change }) s.contents)
