-- What the reading of bytes returns.
use Rattle.std.specs.Prelude.{◌≡◌, ℕ, List, Result, Ok, Err, ⊤}
use Rattle.record_core.specs.declared.change.Change.{Change}
use Rattle.record_core.specs.declared.change.RecordFault.{RecordFault}
use Rattle.record_core.specs.declared.change.RecordFault.TheVariants.{NotARecord, Memory}
use Rattle.record_core.specs.declared.format.Format.{Format}
use Rattle.record_core.specs.Body.{body_in}
use Rattle.record_core.specs.Storable.{IsStorable, IsChange, IsOf}

-- the bytes are the body of this storable change
pub record IsBodyOf (format : Format) (bytes : List ℕ) (change : Change) : Type 0 where
  pub change_is : IsChange change
  pub storable : IsStorable change
  pub of_format : IsOf format change
  pub is : bytes ≡ body_in format change

-- The change whose body the bytes are; or a refusal, and then they are the body of no storable change, unless memory
-- ran out.
abbrev pub Reads : Format → List ℕ → Result Change RecordFault → Type 0
Reads format bytes (Ok change) = IsBodyOf format bytes change
Reads format bytes (Err NotARecord) = (change : Change) → IsBodyOf format bytes change → ⊥
Reads format bytes (Err Memory) = ⊤
