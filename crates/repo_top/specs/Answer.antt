-- What a run of `answer` asks of its host and leaves.
use Rattle.std.specs.Prelude.{◌≡◌, ◌≤◌, ◌⊎◌, ℕ, List, [], ◌∷◌, Option, None, Some, IsSome, is_some}
use Rattle.std.specs.Option.{ForSome}
use Rattle.base_core.specs.Causes.{Rose, Counts}
use Rattle.command_line.specs.Command.{AnswerCommand}
use Rattle.disk_core.specs.declared.disk.Disk.{Ghosts}
use Rattle.doip_message.specs.Pairs.{Pair}
use Rattle.doip_segment.specs.declared.outcome.Limits.{Limits}
use Rattle.ext_ops.specs.Offered.{Offered}
use Rattle.link_core.specs.Host.{HostState, Holdings, IsFresh, IsNew, with_consoles}
use Rattle.link_core.specs.Link.{LinkState}
use Rattle.session_core.specs.declared.end.SessionEnd.{SessionEnd}
use Rattle.session_core.specs.Session.{Session, Served, Transcript, IsTranscript}
use Rattle.repo_step.specs.History.{session_pairs}
use Rattle.repo_store.specs.Files.{IsDiskless, RanOver, TurnsTaken}
use Rattle.repo_store.specs.Opening.{Opens}
use Rattle.repo_store.specs.Store.{Seen, state_in}
use Rattle.repo_top.specs.declared.outcome.NoSession.{NoSession}
use Rattle.repo_top.specs.Run.{Counted, Left, Views, exit_of_session, exit_without_session}
use Rattle.repo_top.specs.Session.{IsPast, LeavesStore, first_state}
use Rattle.repo_top.specs.Start.{HasAccounts, HasReason, IsLeftAlone, IsOfStore, IsOpened, IsSetUp, files_left}

-- Between two states of its link a session was served, with these pairs. If the link reported at first what was left to
-- read, it is a session over those bytes.
pub record IsServed (limits : Limits) (pairs : List Pair) (before after : LinkState) (end : SessionEnd) : Type 0 where
  pub served : Served limits [] pairs before after end
  pub session : (input : List ℕ) → before.left ≡ Some input
      → (t : Transcript) × Session limits t × IsTranscript [] pairs before after end t

module _ {E : Type 0} (g : Ghosts E) where
  -- What the turns of a session leave of its disk, which is there if the command names a file. Without a file the
  -- repository holds nothing at first.
  abbrev pub LeavesDisk : Option E → Option E → TurnsTaken → Type 0
  LeavesDisk (Some opened) (Some disk) turns = RanOver (g.state opened) (g.state disk) turns
  LeavesDisk None None turns = (turns.first ≡ first_state) × IsDiskless turns
  LeavesDisk opened disk turns = ⊥

  -- The turns are those of one store, from the one that was opened over the disk that was handed out to the one that
  -- handed the disk back. Each outcome has its cause in them.
  pub record IsChain (opened disk : Option E) (turns : TurnsTaken) : Type 0 where
    pub begun : Seen E g
    pub opens : Opens opened begun.journal begun.contents
    pub not_closed : begun.closed ≡ None
    pub first : turns.first ≡ state_in begun
    pub leaves : LeavesStore turns.setting begun turns.history disk turns.closed

-- A run with a session: the repository is set up as the command says, the history is that of one session in lane 0 with
-- number 0, and its pairs were served on the link. Status 7 comes only if the link's count of faults rose.
pub record RanSession {E T : Type 0} (v : Views E T) (command : AnswerCommand) (offers : Offered)
    (holds : Option Holdings) (run : Left E T) (begun link : T) (end : SessionEnd) : Type 0 where
  pub turns : TurnsTaken
  pub limits : Limits
  pub set_up : IsSetUp command holds offers turns.setting limits
  pub history : turns.history ≡ run.past
  pub past : IsPast turns.setting turns.first 0 0 run.past
  pub served : IsServed limits (session_pairs turns.setting turns.first 0 0 run.past) (v.link begun) (v.link link) end
  pub disk : LeavesDisk v.disk run.opened run.disk turns
  pub chain : IsChain v.disk run.opened run.disk turns
  pub exit : run.exit ≡ exit_of_session turns.closed end
  pub link_fault : run.exit.status ≡ 7 → Rose 0 (v.link link).faults

-- A run without a session: it exits for a reason, took no message, and left the disk alone. The store is opened after the
-- accounts were read.
pub record HasNoSession {E T : Type 0} (v : Views E T) (command : AnswerCommand) (old new : HostState)
    (run : Left E T) : Type 0 where
  pub reason : NoSession
  pub exit : run.exit ≡ exit_without_session reason
  pub has : HasReason v.disk.state command old new run.opened run.disk reason
  pub accounts : IsOfStore reason → HasAccounts command old.holds
  pub past : run.past ≡ []
  pub disk : IsLeftAlone v.disk.state run.opened run.disk

-- a run that was handed a link returns it with the end of its session; another run has no link and no end
abbrev pub ByEnd : {T : Type 0} → Option T → Option T → Option SessionEnd → (T → T → SessionEnd → Type 0) → Type 0
    → Type 0
ByEnd (Some begun) (Some link) (Some end) Session NoSession = Session begun link end
ByEnd None None None Session NoSession = NoSession
ByEnd begun link end Session NoSession = ⊥

-- The link as it was handed out had no fault, nothing was read from it or written on it, and it wasn't closed. A host that
-- reports what its links hold handed out the first of them.
pub record IsBegun {T : Type 0} (state : T → LinkState) (holds : Option Holdings) (begun : Option T) : Type 0 where
  pub fresh : ForSome begun (λ link. IsFresh (state link))
  pub first : (h : Holdings) (input : List ℕ) (others : List (List ℕ)) → holds ≡ Some h
      → h.consoles ≡ input ∷ others → ForSome begun (λ link. IsNew input (state link))

-- a call was made once at most
abbrev pub CalledOnce : ℕ → ℕ → Type 0
CalledOnce before now = (now ≡ before) ⊎ Counts before now

-- a call for the file at a path was made once at most, and only if there is a path
abbrev pub CalledFor : Option (List ℕ) → ℕ → ℕ → Type 0
CalledFor None before now = now ≡ before
CalledFor (Some path) before now = CalledOnce before now

-- the consoles but the first, if it was handed out
abbrev pub consoles_left : {T : Type 0} → Option T → List (List ℕ) → List (List ℕ)
consoles_left None consoles = consoles
consoles_left (Some link) [] = []
consoles_left (Some link) (first ∷ others) = others

-- what a host holds after it handed out the disk of the file at the path and a link, or not
abbrev pub holdings_left : {E T : Type 0} → Option (List ℕ) → Option E → Option T → Holdings → Holdings
holdings_left path opened begun h = with_consoles (consoles_left begun h.consoles) (files_left path opened h)

-- What a run of `answer` asked of its host: its file, its disk and its console, each once at most, and nothing else.
pub record AnswerAsks {E T : Type 0} (command : AnswerCommand) (old new : HostState) (run : Left E T) : Type 0 where
  pub links : Counted old.handed.links new.handed.links run.link
  pub disks : Counted old.handed.disks new.handed.disks run.disk
  pub listeners : new.handed.listeners ≡ old.handed.listeners
  pub console : CalledOnce old.calls.console new.calls.console
  pub file : CalledFor command.accounts old.calls.file new.calls.file
  pub disk : CalledFor command.store old.calls.disk new.calls.disk
  pub listen : new.calls.listen ≡ old.calls.listen
  pub dial : new.calls.dial ≡ old.calls.dial
  pub later : old.faults ≤ new.faults
  pub holds : (h : Holdings) → old.holds ≡ Some h
      → new.holds ≡ Some (holdings_left command.store run.opened run.begun h)

-- A run of `answer`.
pub record RanAnswer {E T : Type 0} (v : Views E T) (command : AnswerCommand) (offers : Offered) (old new : HostState)
    (run : Left E T) : Type 0 where
  pub session : ByEnd run.begun run.link run.end (RanSession v command offers old.holds run)
      (HasNoSession v command old new run)
  pub stored : IsSome run.link → is_some command.store ≡ is_some run.opened
  pub opened : IsOpened v.disk.state command.store old.holds run.opened
  pub begun : IsBegun v.link old.holds run.begun
  pub asks : AnswerAsks command old new run
