-- The sessions of one lane. This project's own.
use Rattle.std.specs.Prelude.{◌≡◌, ◌+◌, ◌<◌, ℕ, List, [], ◌∷◌, ◌++◌, length, map}
use Rattle.std.specs.List.{AllByRecursion}
use Rattle.doip_segment.specs.declared.outcome.Limits.{Limits}
use Rattle.history_lock.specs.declared.board.Entered.{Entered}
use Rattle.history_lock.specs.declared.pass.Pass.{Pass}
use Rattle.history_lock.specs.declared.turned.Turned.{Ghosts}
use Rattle.history_lock.specs.History.{entries_by, own_of, share_of}
use Rattle.history_lock.specs.Passes.{LockId, lock_of, seen, shares}
use Rattle.link_core.specs.Link.{LinkState}
use Rattle.repo_step.specs.History.{Entry}
use Rattle.lane_server.specs.Admitting.{Admission, HasEnd, accepted, failures}
use Rattle.lane_server.specs.Closing.{ServedAndClosed}
use Rattle.lane_server.specs.Growing.{pairs_by}
use Rattle.lane_server.specs.Turns.{Start}
use Rattle.lane_server.specs.declared.served.ServedSession.{ServedSession}
use Rattle.lane_server.specs.declared.served.LaneEnd.{LaneEnd}
use Rattle.lane_server.specs.declared.served.LaneEnd.TheVariants.{Ended, Faulted, Starved}

-- what all sessions are served under: the limits of a message, the setting and the first state
pub record Terms : Type 0 where
  pub limits : Limits
  pub start : Start

abbrev pub terms : Limits → Start → Terms
terms limits start = record { limits = limits; start = start }

module _ {L : Type 0} where
  -- The session was served from its accepted link on, and its link was closed. Its pairs are those of its lane and number
  -- in this history.
  abbrev pub IsServed : (L → LinkState) → Terms → List (Entered Entry) → ServedSession L → Type 0
  IsServed link_state terms history x = ServedAndClosed terms.limits []
      (pairs_by terms.start x.lane x.session history) (link_state x.begun.value) (link_state x.link) x.end

  -- the sessions are of this lane, numbered in order
  abbrev pub AreNumbered : ℕ → ℕ → List (ServedSession L) → Type 0
  AreNumbered lane next [] = Unit {0}
  AreNumbered lane next (x ∷ more) = (x.lane ≡ lane) × (x.session ≡ next) × AreNumbered lane (next + 1) more

  -- What a lane served: its sessions are numbered in order from 0, each was served whole, and its own entries are of
  -- these sessions.
  pub record Serves (link_state : L → LinkState) (terms : Terms) (lane : ℕ) (history : List (Entered Entry))
      (own : List Entry) (sessions : List (ServedSession L)) : Type 0 where
    pub numbered : AreNumbered lane 0 sessions
    pub each : AllByRecursion (IsServed link_state terms history) sessions
    pub only : AllByRecursion (λ e. (e.lane ≡ lane) × (e.session < length sessions)) own

  -- What holds of a lane before and after each session, with its pass of the store and its pass of the door.
  pub record LaneState {S C R D E F : Type 0} {g : Ghosts S C R Entry} {h : Ghosts D E F (Admission L)}
      (link_state : L → LinkState) (terms : Terms) (lane : ℕ) (store : LockId S) (door : LockId D)
      (pass : Pass S C R Entry g) (taker : Pass D E F (Admission L) h) (sessions : List (ServedSession L))
      : Type 0 where
    pub served : Serves link_state terms lane (seen pass) (own_of (shares pass)) sessions
    -- the links that it accepted are those of its sessions, in order
    pub links : accepted (own_of (shares taker)) ≡ map (λ x. x.begun.value) sessions
    -- the passes are of these locks, and have the lane's number alone
    pub lock : lock_of pass ≡ store
    pub number : shares pass ≡ share_of lane (own_of (shares pass)) ∷ []
    pub door_lock : lock_of taker ≡ door
    pub door_number : shares taker ≡ share_of lane (own_of (shares taker)) ∷ []

  -- What a lane served is the same in a longer history that has no more turns of its number.
  abbrev pub LawOfLonger : (L → LinkState) → Type 0
  LawOfLonger link_state = (terms : Terms) (lane : ℕ) (history more : List (Entered Entry)) (own : List Entry)
      (sessions : List (ServedSession L)) → entries_by lane more ≡ [] → Serves link_state terms lane history own sessions
      → Serves link_state terms lane (history ++ more) own sessions

-- how a lane ended, by its turns at the door
abbrev pub EndsLane : {L : Type 0} → LaneEnd → List (Admission L) → Type 0
EndsLane Ended turns = HasEnd turns × (failures turns ≡ 0)
EndsLane Faulted turns = failures turns ≡ 1
EndsLane Starved turns = failures turns ≡ 0
