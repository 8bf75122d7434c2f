-- What a crash at any moment of several calls in a row may leave.
use Rattle.std.specs.Prelude.{◌≡◌, ℕ, ◌≤◌, List, Some, IsSome}
use Rattle.std.specs.Option.{ForSome}
use Rattle.disk_core.specs.Disk.{DiskState, IsImageNow, SamePast, Same}

-- What a crash might have left before is the same, and what a crash since then leaves is what `Makes` makes of an image
-- from the beginning.
pub record Spans (old new : DiskState) (Makes : List ℕ → List ℕ → Type 0) : Type 0 where
  pub later : old.moment ≤ new.moment
  pub same : SamePast old new
  pub inside : (moment : ℕ) (image : List ℕ) → old.moment ≤ moment → moment ≤ new.moment → new.image_at moment image
      → (first : List ℕ) × IsImageNow old first × Makes first image

-- what a crash from that moment on leaves has P
abbrev pub LeavesSince : DiskState → ℕ → (List ℕ → Type 0) → Type 0
LeavesSince new since P =
    (moment : ℕ) (image : List ℕ) → since ≤ moment → moment ≤ new.moment → new.image_at moment image → P image

-- what a crash might have left before is the same, and what a crash since then leaves has P
pub record LeavesOnly (old new : DiskState) (P : List ℕ → Type 0) : Type 0 where
  pub later : old.moment ≤ new.moment
  pub same : SamePast old new
  pub each : LeavesSince new old.moment P

-- if the disk reports its content at the end, it did at the beginning, and its images went on as `Makes` says
abbrev pub Run : DiskState → DiskState → (List ℕ → List ℕ → Type 0) → Type 0
Run old new Makes = ForSome new.content (λ _. IsSome old.content × Spans old new Makes)

-- only reads: the file is as it was, and so is what a crash may leave
pub record LeavesAlone (old new : DiskState) : Type 0 where
  pub reported : ForSome new.content (λ file. old.content ≡ Some file)
  pub crash : Run old new Same
  pub clock : old.moment ≤ new.moment
  pub count : old.faults ≤ new.faults
