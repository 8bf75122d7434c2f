-- The session of a run: its pairs are the entries of its lane and number, each with the text of its reply.
use Rattle.std.specs.Prelude.{◌≡◌, ℕ, List, map, Option, None}
use Rattle.std.specs.List.{AllByRecursion}
use Rattle.std.specs.Option.{ForSome}
use Rattle.disk_core.specs.declared.disk.Disk.{Ghosts}
use Rattle.doip_message.specs.Fixed.{memory_reply, disk_reply, closed_reply}
use Rattle.doip_message.specs.Reply.{reply_text}
use Rattle.history_lock.specs.History.{Runs}
use Rattle.session_core.specs.Session.{Transcript}
use Rattle.repo_state.specs.Contents.{no_contents}
use Rattle.repo_step.specs.declared.outcome.Outcome.TheVariants.{NoMemory, DiskFault, Closed}
use Rattle.repo_step.specs.Setting.{Setting, State, state}
use Rattle.repo_step.specs.History.{Entry, Exchange, Legal, exchanges_of, is_of, session_pairs}
use Rattle.repo_step.specs.Laws.{IsAllOf}
use Rattle.repo_store.specs.Law.{IsTurn}
use Rattle.repo_store.specs.Saved.{disk_in}
use Rattle.repo_store.specs.Store.{Seen}

-- the state before the first message of a repository without a file: it holds nothing, and has no area
abbrev pub first_state : State
first_state = state no_contents None

-- where a session's messages are replied to: by a store that was this at first, in this lane and session
pub record Seat {D : Type 0} (g : Ghosts D) : Type 0 where
  pub setting : Setting
  pub first : Seen D g
  pub lane : ℕ
  pub session : ℕ

module _ {D : Type 0} {g : Ghosts D} where
  -- What a store keeps between two messages of its one session: the turns of the history, and no others, led to it.
  pub record IsReady (setting : Setting) (first : Seen D g) (lane session : ℕ) (history : List Entry)
      (now : Seen D g) : Type 0 where
    pub runs : Runs (IsTurn setting) first history now
    pub no_other : IsAllOf lane session history

  -- The turns of the history led from the first store to one with this disk, closed at this count of its faults.
  pub record LeavesStore (setting : Setting) (first : Seen D g) (history : List Entry) (disk : Option D)
      (closed : Option ℕ) : Type 0 where
    pub last : Seen D g
    pub runs : Runs (IsTurn setting) first history last
    pub disk_is : disk ≡ disk_in last.journal
    pub closed_is : closed ≡ last.closed

-- The text of each refusal of the store is the reply to an entry only if its outcome says so.
pub record HasItsCause (x : Exchange) : Type 0 where
  pub memory : reply_text x.reply ≡ reply_text memory_reply → x.entry.outcome ≡ NoMemory
  pub disk : reply_text x.reply ≡ reply_text disk_reply → x.entry.outcome ≡ DiskFault
  pub closed : reply_text x.reply ≡ reply_text closed_reply → x.entry.outcome ≡ Closed

-- The history of a run from this first state: legal, and all of it of this one session.
pub record IsPast (setting : Setting) (first : State) (lane session : ℕ) (history : List Entry) : Type 0 where
  pub legal : Legal setting (λ e. e) first history
  pub no_other : IsAllOf lane session history
  pub causes : AllByRecursion HasItsCause (exchanges_of setting (is_of lane session) first history)

-- A clock that still reports what it has given gave the times of these entries, in order, and no others.
abbrev pub HasTimesOf : Option (List ℕ) → List Entry → Type 0
HasTimesOf given history = ForSome given (λ times. times ≡ map (λ e. e.brought.time) history)

-- The session has this history: the pairs of the one are those of the other.
pub record IsSessionOf (setting : Setting) (first : State) (history : List Entry) (t : Transcript) : Type 0 where
  pub past : IsPast setting first 0 0 history
  pub pairs : t.pairs ≡ session_pairs setting first 0 0 history

-- Turn by turn, what was brought and how it ended are the same.
pub record HaveSameOutcomes (history other : List Entry) : Type 0 where
  pub outcomes : map (λ e. e.outcome) history ≡ map (λ e. e.outcome) other
  pub brought : map (λ e. e.brought) history ≡ map (λ e. e.brought) other
