-- What contracts see of a listener and of a clock, and what each call does to it.
use Rattle.std.specs.Prelude.{◌≡◌, ◌++◌, ◌∷◌, [], ℕ, List, Option, None, Some, ⊤, MatchResult, Result, IfOk}
use Rattle.std.specs.Option.{ForSome}
use Rattle.base_core.specs.Causes.{HasCause}
use Rattle.link_core.specs.Link.{LinkState}
use Rattle.link_core.specs.Host.{IsNew, IsFresh}

-- What contracts see of a listener.
pub record ListenerState : Type 0 where
  -- what the links hold that it has yet to accept, in order, if it reports them
  pub waiting : Option (List (List ℕ))
  -- how often a call has failed
  pub faults : ℕ

-- a link was accepted that holds these bytes
abbrev pub IsLinkOf : {T : Type 0} → (T → LinkState) → List ℕ → Option T → Type 0
IsLinkOf state bytes (Some link) = IsNew bytes (state link)
IsLinkOf state bytes None = ⊥

-- A listener that reports its links accepts the first of them, and holds the others from then on. It returns none
-- exactly at the end of its list. After a fault it holds them all.
abbrev pub AcceptsFirst : {T E : Type 0} → (T → LinkState) → Option (List (List ℕ)) → Option (List (List ℕ))
    → Result (Option T) E → Type 0
AcceptsFirst state None new result = ⊤
AcceptsFirst state (Some []) new result = MatchResult result (λ found. (found ≡ None) × (new ≡ Some []))
    (λ _. new ≡ Some [])
AcceptsFirst state (Some (first ∷ others)) new result =
    MatchResult result (λ found. IsLinkOf state first found × (new ≡ Some others)) (λ _. new ≡ Some (first ∷ others))

-- `accept` returns a fresh link, of which contracts see this state, or none. A fault has its cause.
pub record Accepts {T E : Type 0} (state : T → LinkState) (old new : ListenerState)
    (result : Result (Option T) E) : Type 0 where
  pub first : AcceptsFirst state old.waiting new.waiting result
  pub fresh : IfOk result (λ found. ForSome found (λ link. IsFresh (state link)))
  pub cause : HasCause old.faults new.faults result

-- A clock that still reports the times that it has given has given this one after all those before.
abbrev pub GivesTime : Option (List ℕ) → Option (List ℕ) → ℕ → Type 0
GivesTime old new time =
    ForSome new (λ times. (before : List ℕ) × (old ≡ Some before) × (times ≡ before ++ time ∷ []))
