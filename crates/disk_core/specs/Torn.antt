-- What a crash may make of some images under a call.
use Rattle.std.specs.Prelude.{◌≡◌, ℕ, List, ◌++◌}
use Rattle.std.specs.List.{All, Contains}
use Rattle.disk_core.specs.Disk.{Torn}
use Rattle.disk_core.specs.Past.{LeavesBy}
use Rattle.disk_core.specs.declared.calls.Noted.{Noted}

-- images were added at the end, each of which has this
abbrev pub AddsOnly : (List ℕ → Type 0) → List (List ℕ) → List (List ℕ) → Type 0
AddsOnly Has old new = (others : List (List ℕ)) × (new ≡ old ++ others) × All Has others

-- one of these images, torn
abbrev pub IsTornOf : List (List ℕ) → ℕ → ℕ → List ℕ → Type 0
IsTornOf before place n image = (old : List ℕ) × Contains before old × Torn place n old image

-- what a crash after a call may leave, if the file and the images before it were these
abbrev pub IsImageBy : Noted → List ℕ → List (List ℕ) → List ℕ → Type 0
IsImageBy noted file before image = LeavesBy noted file (Contains before) image
