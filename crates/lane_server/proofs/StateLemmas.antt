-- What holds of a lane, from one session to the next.
use Rattle.std.proofs.Common.{◌≡◌, ℕ, List, [], ◌∷◌, ◌++◌, None, Some, Ok, Err, length, map, sym, ap, ◌∙◌, subst}
use Rattle.base_core.specs.declared.failed.Failed.{Failed}
use Rattle.doip_segment.specs.declared.outcome.Limits.{Limits}
use Rattle.doip_message.specs.Pairs.{Pair}
use Rattle.history_lock.specs.declared.pass.Pass.{Pass}
use Rattle.history_lock.specs.declared.turned.Turned.{Ghosts}
use Rattle.history_lock.specs.History.{entries_by, grown, own_of, share_of}
use Rattle.history_lock.specs.Passes.{IsFresh, LockId, lock_of, seen, shares}
use Rattle.link_core.specs.Link.{LinkState}
use Rattle.repo_step.specs.History.{Entry}
use Rattle.lane_server.specs.declared.served.ServedSession.{ServedSession}
use Rattle.lane_server.specs.Admitting.{Admission, HasEnd, accepted, failures}
use Rattle.lane_server.specs.Closing.{ServedAndClosed}
use Rattle.lane_server.specs.Growing.{Grew, pairs_by}
use Rattle.lane_server.specs.Lanes.{LaneState, LawOfLonger, Serves, Terms, terms}
use Rattle.lane_server.specs.Turns.{Start}
use Rattle.lane_server.proofs.DoorLemmas.{fault_more, link_more, none_more}
use Rattle.lane_server.proofs.LaneLemmas.{all_both, numbered_below, served_on, serves_none}
use Rattle.lane_server.proofs.PairLemmas.{pairs_others}

module _ {L : Type 0} (link_state : L → LinkState) (t : Terms) (lane : ℕ) where
  -- before the first session
  pub fresh_state : {S C R D E F : Type 0} {g : Ghosts S C R Entry} {h : Ghosts D E F (Admission L)} (store : LockId S)
      (door : LockId D) (pass : Pass S C R Entry g) (taker : Pass D E F (Admission L) h)
      (sessions : List (ServedSession L)) → IsFresh store lane pass → IsFresh door lane taker → sessions ≡ []
      → LaneState link_state t lane store door pass taker sessions × (failures (own_of (shares taker)) ≡ 0)
  fresh_state store door pass taker sessions p d none =
      let no_turn : own_of (shares pass) ≡ [] = ap own_of p.2 in
      let no_link : own_of (shares taker) ≡ [] = ap own_of d.2 in (
        record {
          served = serves_none link_state t lane (seen pass) (own_of (shares pass)) sessions none no_turn;
          links = ap accepted no_link ∙ sym (ap (map (λ (x : ServedSession L). x.begun.value)) none);
          lock = p.0;
          number = p.2 ∙ ap (λ (o : List Entry). share_of lane o ∷ []) (sym no_turn);
          door_lock = d.0;
          door_number = d.2 ∙ ap (λ (o : List (Admission L)). share_of lane o ∷ []) (sym no_link);
        },
        ap failures no_link,
      )

  -- the same sessions, after a turn at the door that accepted no link, or none
  pub state_stays : {S C R D E F : Type 0} {g : Ghosts S C R Entry} {h : Ghosts D E F (Admission L)} (store : LockId S)
      (door : LockId D) (pass : Pass S C R Entry g) (taker now : Pass D E F (Admission L) h)
      (sessions later : List (ServedSession L)) → LaneState link_state t lane store door pass taker sessions
      → lock_of now ≡ lock_of taker → shares now ≡ share_of lane (own_of (shares now)) ∷ []
      → accepted (own_of (shares now)) ≡ accepted (own_of (shares taker)) → later ≡ sessions
      → LaneState link_state t lane store door pass now later
  state_stays store door pass taker now sessions later s lock number same are = record {
    served = subst (Serves link_state t lane (seen pass) (own_of (shares pass))) (sym are) s.served;
    links = same ∙ (s.links ∙ sym (ap (map (λ (x : ServedSession L). x.begun.value)) are));
    lock = s.lock;
    number = s.number;
    door_lock = lock ∙ s.door_lock;
    door_number = number;
  }

  -- no link was left
  pub state_ends : {S C R D E F : Type 0} {g : Ghosts S C R Entry} {h : Ghosts D E F (Admission L)} (store : LockId S)
      (door : LockId D) (pass : Pass S C R Entry g) (taker now : Pass D E F (Admission L) h)
      (sessions later : List (ServedSession L)) (e : Admission L)
      → LaneState link_state t lane store door pass taker sessions → failures (own_of (shares taker)) ≡ 0
      → lock_of now ≡ lock_of taker → shares now ≡ grown e (shares taker) → e ≡ Ok None → later ≡ sessions
      → LaneState link_state t lane store door pass now later
      × HasEnd (own_of (shares now)) × (failures (own_of (shares now)) ≡ 0)
  state_ends store door pass taker now sessions later e s none lock has is are =
      let m = none_more lane (shares taker) (shares now) e s.door_number has is none in
      (state_stays store door pass taker now sessions later s lock m.0 m.1 are, m.2, m.3)

  -- accepting failed
  pub state_faults : {S C R D E F : Type 0} {g : Ghosts S C R Entry} {h : Ghosts D E F (Admission L)} (store : LockId S)
      (door : LockId D) (pass : Pass S C R Entry g) (taker now : Pass D E F (Admission L) h)
      (sessions later : List (ServedSession L)) (e : Admission L) (fault : Failed)
      → LaneState link_state t lane store door pass taker sessions → failures (own_of (shares taker)) ≡ 0
      → lock_of now ≡ lock_of taker → shares now ≡ grown e (shares taker) → e ≡ Err fault → later ≡ sessions
      → LaneState link_state t lane store door pass now later × (failures (own_of (shares now)) ≡ 1)
  state_faults store door pass taker now sessions later e fault s none lock has is are =
      let m = fault_more lane (shares taker) (shares now) e fault s.door_number has is none in
      (state_stays store door pass taker now sessions later s lock m.0 m.1 are, m.2)

  -- a link was accepted and served
  pub state_on : {S C R D E F : Type 0} {g : Ghosts S C R Entry} {h : Ghosts D E F (Admission L)} (store : LockId S)
      (door : LockId D) (pass after : Pass S C R Entry g) (taker now : Pass D E F (Admission L) h)
      (sessions later : List (ServedSession L)) (x : ServedSession L) (k : ℕ) (e : Admission L) (link : L)
      → LaneState link_state t lane store door pass taker sessions → failures (own_of (shares taker)) ≡ 0
      → lock_of now ≡ lock_of taker → shares now ≡ grown e (shares taker) → e ≡ Ok (Some link)
      → x.begun.value ≡ link → later ≡ sessions ++ x ∷ [] → k ≡ length sessions → Grew lane k pass after
      → x.lane ≡ lane → x.session ≡ k
      → ServedAndClosed t.limits (pairs_by t.start lane k (seen pass)) (pairs_by t.start lane k (seen after))
      (link_state link) (link_state x.link) x.end
      → LaneState link_state t lane store door after now later × (failures (own_of (shares now)) ≡ 0)
  state_on store door pass after taker now sessions later x k e link s none lock has is from are count grew in_lane
      in_session served =
      let m = link_more lane (shares taker) (shares now) e link (λ (x : ServedSession L). x.begun.value) sessions later x
      s.door_number has is s.links none from are in
      let on = served_on link_state t lane pass after sessions later x k s.served count s.number grew in_lane
      in_session (subst (λ (l : L). ServedAndClosed t.limits (pairs_by t.start lane k (seen pass))
      (pairs_by t.start lane k (seen after)) (link_state l) (link_state x.link) x.end) (sym from) served) are in (
        record {
          served = on.0;
          links = m.1;
          lock = grew.lock ∙ s.lock;
          number = on.1;
          door_lock = lock ∙ s.door_lock;
          door_number = m.0;
        },
        m.2,
      )

-- under equal limits
pub with_limits : {L S C R D E F : Type 0} {g : Ghosts S C R Entry} {h : Ghosts D E F (Admission L)}
    (link_state : L → LinkState) (start : Start) (lane : ℕ) (store : LockId S) (door : LockId D) (pass : Pass S C R Entry g)
    (taker : Pass D E F (Admission L) h) (sessions : List (ServedSession L)) (l m : Limits) → l ≡ m
    → LaneState link_state (terms l start) lane store door pass taker sessions
    → LaneState link_state (terms m start) lane store door pass taker sessions
with_limits link_state start lane store door pass taker sessions l m same s =
    subst (λ (x : Limits). LaneState link_state (terms x start) lane store door pass taker sessions) same s

-- a history that has no more turns of the lane
pub longer : {L : Type 0} (link_state : L → LinkState) → LawOfLonger link_state
longer {L} link_state t lane history more own sessions none s = record {
  numbered = s.numbered;
  each = all_both sessions
      (λ x b d. subst (λ (ps : List Pair). ServedAndClosed t.limits [] ps (link_state x.begun.value) (link_state x.link) x.end)
      (sym (pairs_others t.start x.lane x.session history more
      (subst (λ (n : ℕ). entries_by n more ≡ []) (sym b.0) none))) d)
      (numbered_below link_state t lane 0 sessions s.numbered) s.each;
  only = s.only;
}
