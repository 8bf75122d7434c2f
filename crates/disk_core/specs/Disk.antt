-- What contracts see of a disk, what its calls do to its file, and what a crash may leave of it.
use Rattle.std.specs.Prelude.{◌≡◌, ◌↔◌, ℕ, ◌+◌, ◌-◌, ◌<◌, ◌≤◌, min, max, List, ◌++◌, length, take, drop, replicate}
use Rattle.std.specs.Prelude.{Result, Option, Some, IfOk, OnOk, IsOk}
use Rattle.std.specs.Option.{ForSome, option_map, IsSome}
use Rattle.base_core.specs.Causes.{HasCause}

-- What contracts see of a disk. One that doesn't report its content shows no more than its clock and its faults.
pub record DiskState : Type 1 where
  -- the bytes that a read gives, if the disk reports them
  pub content : Option (List ℕ)
  -- the clock
  pub moment : ℕ
  -- a crash at this moment, up to now, may leave this image
  pub image_at : ℕ → List ℕ → Type 0
  -- a sync that succeeded ended at this moment
  pub synced_at : ℕ → Type 0
  -- how often a call has failed
  pub faults : ℕ

-- a crash now may leave this image
abbrev pub IsImageNow : DiskState → List ℕ → Type 0
IsImageNow state image = state.image_at state.moment image

-- each image is what a read gives
abbrev pub IsSettled : DiskState → Type 0
IsSettled state = ForSome state.content (λ file. (image : List ℕ) → IsImageNow state image → image ≡ file)

-- what a read gives is one of the images
abbrev pub ReadsAsImage : DiskState → Type 0
ReadsAsImage state = (file : List ℕ) → state.content ≡ Some file → IsImageNow state file

-- the file with this piece at this place; what lies between its old end and the place reads as zero
abbrev pub written : ℕ → List ℕ → List ℕ → List ℕ
written place piece file =
    take place file ++ (replicate (place - length file) 0 ++ (piece ++ drop (place + length piece) file))

-- after a write of n bytes that a crash cuts short: any bytes in that range and past the old end, the same elsewhere
pub record Torn (place n : ℕ) (old new : List ℕ) : Type 0 where
  pub before : take (min place (length old)) new ≡ take place old
  pub after : drop (place + n) new ≡ drop (place + n) old
  pub no_shorter : length old ≤ length new
  pub no_longer : length new ≤ max (length old) (place + n)

-- what a call that only reads, or a sync, makes of an image: nothing else
abbrev pub Same : List ℕ → List ℕ → Type 0
Same old new = new ≡ old

-- what a crash might have left up to the moment of `old` is the same in `new`
abbrev pub SamePast : DiskState → DiskState → Type 0
SamePast old new =
    (moment : ℕ) (image : List ℕ) → moment ≤ old.moment → old.image_at moment image ↔ new.image_at moment image

-- which syncs had succeeded up to the moment of `old` is the same in `new`
abbrev pub SameSyncs : DiskState → DiskState → Type 0
SameSyncs old new = (moment : ℕ) → moment ≤ old.moment → old.synced_at moment ↔ new.synced_at moment

-- The clock goes on. What a crash might have left before the call is the same after it, and what a crash inside the
-- call or at its end leaves is what `Makes` makes of an image from right before it.
pub record Passes (old new : DiskState) (Makes : List ℕ → List ℕ → Type 0) : Type 0 where
  pub later : old.moment < new.moment
  pub same : SamePast old new
  pub inside : (moment : ℕ) (image : List ℕ) → old.moment < moment → moment ≤ new.moment → new.image_at moment image
      → (first : List ℕ) × IsImageNow old first × Makes first image

-- Which syncs had succeeded before the call is the same after it; since then one succeeded at the moments of `Ends`.
pub record Syncs (old new : DiskState) (Ends : ℕ → Type 0) : Type 0 where
  pub same : SameSyncs old new
  pub since : (moment : ℕ) → old.moment < moment → new.synced_at moment ↔ Ends moment

-- no sync succeeded
abbrev pub Never : ℕ → Type 0
Never moment = ⊥

-- What every call does: the clock doesn't fall, and if the disk still reports its content, `Makes` says what a crash
-- may leave, and `Ends` when a sync succeeded.
pub record Moves (old new : DiskState) (Makes : List ℕ → List ℕ → Type 0) (Ends : ℕ → Type 0) : Type 0 where
  pub clock : old.moment ≤ new.moment
  pub crash : ForSome new.content (λ _. Passes old new Makes)
  pub syncs : ForSome new.content (λ _. Syncs old new Ends)

-- a call that only reads leaves the file as it was, also if it fails
pub record OnlyReads {T E : Type 0} (old new : DiskState) (result : Result T E) : Type 0 where
  pub same : OnOk result (new.content ≡ old.content)
  pub reported : ForSome new.content (λ file. old.content ≡ Some file)
  pub moves : Moves old new Same Never
  pub cause : HasCause old.faults new.faults result

-- `length` returns the length of the file
pub record ReturnsLength {E : Type 0} (old new : DiskState) (result : Result ℕ E) : Type 0 where
  pub value : IfOk result (λ n. ForSome old.content (λ file. n ≡ length file))
  pub reads : OnlyReads old new result

-- `read_at` fills a prefix of `into` with the bytes from `place` on, and returns its length: 0 only for an empty
-- `into`, and at or past the end
pub record ReadsAt {E : Type 0} (old new : DiskState) (place : ℕ) (into : List ℕ) (result : Result ℕ E) : Type 0 where
  pub bound : IfOk result (λ n. n ≤ length into)
  pub bytes : IfOk result (λ n. ForSome old.content (λ file. take n into ≡ take n (drop place file)))
  pub within : IfOk result (λ n. ForSome old.content (λ file. n ≤ length (drop place file)))
  pub ended : IfOk result (λ n. ForSome old.content (λ file. n ≡ 0 → 0 < length into → length file ≤ place))
  pub reads : OnlyReads old new result

-- `write_at` writes the whole piece at `place`; a crash inside may tear it
pub record WritesAt {T E : Type 0} (old new : DiskState) (place : ℕ) (piece : List ℕ)
    (result : Result T E) : Type 0 where
  pub puts : OnOk result (new.content ≡ option_map (written place piece) old.content)
  pub reported : ForSome new.content (λ _. IsSome old.content)
  pub moves : Moves old new (Torn place (length piece)) Never
  pub cause : HasCause old.faults new.faults result

-- `sync` makes what was written durable: the disk is settled after it
pub record MakesDurable {T E : Type 0} (old new : DiskState) (result : Result T E) : Type 0 where
  pub settled : OnOk result (IsSettled new)
  pub same : OnOk result (new.content ≡ old.content)
  pub reported : ForSome new.content (λ _. IsSome old.content)
  pub moves : Moves old new Same (λ moment. IsOk result × (moment ≡ new.moment))
  pub cause : HasCause old.faults new.faults result
