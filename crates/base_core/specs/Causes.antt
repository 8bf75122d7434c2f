-- Why a call over the outside may report a fault: its count of faults rose.
use Rattle.std.specs.Prelude.{◌≡◌, ◌≤◌, ◌+◌, ◌-◌, ◌^◌, ℕ, min, OnErr, Result}

-- the count rose, or is at its last value
abbrev pub Rose : ℕ → ℕ → Type 0
Rose before now = min (before + 1) (2 ^ 64 - 1) ≤ now

-- the count rose by one, or is at its last value
abbrev pub Counts : ℕ → ℕ → Type 0
Counts before now = now ≡ min (before + 1) (2 ^ 64 - 1)

-- the count never falls, and a fault comes only where it rose
pub record HasCause {T E : Type 0} (before now : ℕ) (result : Result T E) : Type 0 where
  pub later : before ≤ now
  pub failed : OnErr result (Rose before now)
