-- What `say` writes on a link.
use Rattle.std.specs.Prelude.{◌≡◌, ◌≤◌, ℕ, List, Option, length, take, MatchResult, Result}
use Rattle.std.specs.Io.KnownBytes.{Appends}
use Rattle.base_core.specs.Causes.{HasCause}
use Rattle.link_core.specs.Link.{LinkState, KeepsInput}

-- all of the bytes were written, or after a fault a prefix of them
abbrev pub Says : {T E : Type 0} → Option (List ℕ) → Option (List ℕ) → List ℕ → Result T E → Type 0
Says old new bytes result =
    MatchResult result (λ _. Appends old new bytes) (λ _. (n : ℕ) × (n ≤ length bytes) × Appends old new (take n bytes))

-- `say` writes the bytes on a link, or after a fault a prefix of them, and reads nothing
pub record SaysBytes {T E : Type 0} (old new : LinkState) (bytes : List ℕ) (result : Result T E) : Type 0 where
  pub written : Says old.written new.written bytes result
  pub input : KeepsInput old new
  pub closed : new.closed ≡ old.closed
  pub cause : HasCause old.faults new.faults result
