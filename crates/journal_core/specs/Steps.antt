-- The steps of a change on the disk.
use Rattle.std.specs.Prelude.{◌≡◌, ℕ, ◌≤◌, List, [], ◌∷◌, ◌++◌, length, Result, Some, OnOk}
use Rattle.std.specs.Option.{ForSome}
use Rattle.base_core.specs.Causes.{HasCause}
use Rattle.disk_core.specs.Disk.{DiskState, IsSettled, written, Torn}
use Rattle.disk_core.specs.Runs.{Run}
use Rattle.journal_core.specs.File.{content_of}
use Rattle.journal_core.specs.declared.layout.Format.TheVariants.{Second}
use Rattle.journal_core.specs.declared.records.Stamp.{Stamp}

-- one record without its gate, and the next gate
abbrev pub staged : Stamp → List ℕ → ℕ → List ℕ
staged stamp body next_gate = content_of Second (record { stamp = stamp; body = body }) ++ next_gate ∷ []

-- The piece is written, by one call or several. A crash on the way may tear it.
pub record Writes {T E : Type 0} (old new : DiskState) (place : ℕ) (piece : List ℕ) (result : Result T E) : Type 0 where
  pub puts : OnOk result (ForSome old.content (λ file. new.content ≡ Some (written place piece file)))
  pub crash : Run old new (Torn place (length piece))
  pub clock : old.moment ≤ new.moment
  pub cause : HasCause old.faults new.faults result

-- the piece is written and durable
pub record WritesDurably {T E : Type 0} (old new : DiskState) (place : ℕ) (piece : List ℕ)
    (result : Result T E) : Type 0 where
  pub writes : Writes old new place piece result
  pub settled : OnOk result (IsSettled new)
