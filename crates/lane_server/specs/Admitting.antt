-- What a door admits, turn by turn. This project's own.
use Rattle.std.specs.Prelude.{◌≡◌, ◌⊎◌, ◌+◌, ◌-◌, ◌^◌, ◌<◌, ◌≤◌, ℕ, suc, min, List, [], ◌∷◌, ◌++◌, length, Option, None, Some, Result, Ok, Err}
use Rattle.std.specs.List.{AllByRecursion}
use Rattle.base_core.specs.declared.failed.Failed.{Failed}
use Rattle.history_lock.specs.History.{Leads, Runs}
use Rattle.link_core.specs.Host.{IsFresh, IsNew}
use Rattle.link_core.specs.Link.{LinkState}
use Rattle.link_core.specs.Listener.{ListenerState, Accepts}
use Rattle.lane_server.specs.declared.door.Door.{Door}

-- what a turn of a door returns: a link, none, or a fault
abbrev pub Admission : Type 0 → Type 0
Admission L = Result (Option L) Failed

module _ {L : Type 0} where
  -- how many links are to be accepted after a turn
  abbrev pub Counted : ℕ → ℕ → Admission L → Type 0
  Counted old new (Ok (Some link)) = old ≡ new + 1
  Counted old new (Ok None) = new ≡ old
  Counted old new (Err fault) = new ≡ old

  -- the links that were accepted, in order
  abbrev pub accepted : List (Admission L) → List L
  accepted [] = []
  accepted (Ok (Some link) ∷ more) = link ∷ accepted more
  accepted (Ok None ∷ more) = accepted more
  accepted (Err fault ∷ more) = accepted more

  -- how often accepting failed
  abbrev pub failures : List (Admission L) → ℕ
  failures [] = 0
  failures (Ok found ∷ more) = failures more
  failures (Err fault ∷ more) = suc (failures more)

  -- a turn found no link left
  abbrev pub HasEnd : List (Admission L) → Type 0
  HasEnd [] = ⊥
  HasEnd (e ∷ more) = (e ≡ Ok None) ⊎ HasEnd more

  -- each link holds these bytes, in order
  abbrev pub Hold : (L → LinkState) → List (List ℕ) → List L → Type 0
  Hold link_state [] [] = Unit {0}
  Hold link_state (bytes ∷ more) (link ∷ links) = IsNew bytes (link_state link) × Hold link_state more links
  Hold link_state _ _ = ⊥

module _ {Li L : Type 0} (link_state : L → LinkState) (state : Li → ListenerState) where
  -- One turn of a door: where no more are to be accepted it returns none and leaves the listener alone, and else it
  -- accepts.
  pub record Admits (old : Door Li) (call : Unit {0}) (entry reply : Admission L) (new : Door Li) : Type 0 where
    pub told : entry ≡ reply
    pub counted : Counted old.left new.left reply
    pub shut : old.left ≡ 0 → (reply ≡ Ok None) × (new.listener ≡ old.listener)
    pub accepts : 0 < old.left → Accepts link_state (state old.listener) (state new.listener) reply

  -- What turns of a door leave.
  pub record Admitted (first : Door Li) (turns : List (Admission L)) (last : Door Li) : Type 0 where
    -- each link accepted is one fewer to be accepted
    pub left : first.left ≡ last.left + length (accepted turns)
    pub fresh : AllByRecursion (λ link. IsFresh (link_state link)) (accepted turns)
    -- of a listener that reports its links they are the first, and it holds the others
    pub first_ones : (waiting : List (List ℕ)) → (state first.listener).waiting ≡ Some waiting
        → (taken others : List (List ℕ)) × (waiting ≡ taken ++ others)
        × ((state last.listener).waiting ≡ Some others) × Hold link_state taken (accepted turns)
    -- each fault was counted
    pub faults : min ((state first.listener).faults + failures turns) (2 ^ 64 - 1) ≤ (state last.listener).faults
    -- none is returned only where all were accepted, or the listener is at its end
    pub end : HasEnd turns → (waiting : List (List ℕ)) → (state first.listener).waiting ≡ Some waiting
        → (last.left ≡ 0) ⊎ ((state last.listener).waiting ≡ Some [])

  -- any list of turns of a door leaves this
  abbrev pub LawOfAdmissions : Type 0
  LawOfAdmissions = (first last : Door Li) (turns : List (Admission L)) → Runs (Leads Admits) first turns last
      → Admitted first turns last
