-- The file and its images, from a log of calls.
use Rattle.std.specs.Prelude.{◌≡◌, ℕ, ◌+◌, ◌≤◌, Bool, true, false, List, [], ◌∷◌, Option, length, reverse, take}
use Rattle.std.specs.Prelude.{count_by, Contains}
use Rattle.disk_core.specs.Disk.{DiskState, written, Torn}
use Rattle.disk_core.specs.declared.calls.DiskCall.{DiskCall}
use Rattle.disk_core.specs.declared.calls.DiskCall.TheVariants.{Length, ReadAt, WriteAt, Sync}
use Rattle.disk_core.specs.declared.calls.Failing.{Failing}
use Rattle.disk_core.specs.declared.calls.Noted.{Noted}

-- what a call makes of the file: a write that was done puts its piece there, and nothing else changes it
abbrev pub file_by : DiskCall → Bool → ℕ → List ℕ → List ℕ → List ℕ
file_by Length done place piece file = file
file_by ReadAt done place piece file = file
file_by WriteAt true place piece file = written place piece file
file_by WriteAt false place piece file = file
file_by Sync done place piece file = file

-- what a call makes of the images: a write, done or not, may be torn, and a sync that was done leaves the file alone
abbrev pub Leaves : DiskCall → Bool → ℕ → List ℕ → List ℕ → (List ℕ → Type 0) → List ℕ → Type 0
Leaves Length done place piece file images image = images image
Leaves ReadAt done place piece file images image = images image
Leaves WriteAt done place piece file images image = (old : List ℕ) × images old × Torn place (length piece) old image
Leaves Sync true place piece file images image = image ≡ file
Leaves Sync false place piece file images image = images image

-- the same, of a call as it was written down
abbrev pub LeavesBy : Noted → List ℕ → (List ℕ → Type 0) → List ℕ → Type 0
LeavesBy noted file images image = Leaves noted.call noted.done noted.place noted.bytes file images image

-- the file after these calls, of which the newest comes first
abbrev pub file_after : List ℕ → List Noted → List ℕ
file_after start [] = start
file_after start (noted ∷ earlier) = file_by noted.call noted.done noted.place noted.bytes (file_after start earlier)

-- a crash after these calls, of which the newest comes first, may leave this image
abbrev pub IsImage : List ℕ → List Noted → List ℕ → Type 0
IsImage start [] image = image ≡ start
IsImage start (noted ∷ earlier) image = LeavesBy noted (file_after start earlier) (IsImage start earlier) image

-- a crash after the first calls of a log, of which the oldest comes first, may leave this image
abbrev pub IsImageAt : List ℕ → List Noted → ℕ → List ℕ → Type 0
IsImageAt start calls moment image = IsImage start (reverse (take moment calls)) image

-- the newest of these calls, which comes first, is a sync that was done
abbrev pub EndsInSync : List Noted → Type 0
EndsInSync [] = ⊥
EndsInSync (noted ∷ earlier) = (noted.call ≡ Sync) × (noted.done ≡ true)

-- the call at this moment of a log is a sync that was done
abbrev pub IsSyncedAt : List Noted → ℕ → Type 0
IsSyncedAt calls moment = (moment ≤ length calls) × EndsInSync (reverse (take moment calls))

-- what contracts see of a disk with this content and count of faults, which had this file at first and then these calls
abbrev pub past_of : Option (List ℕ) → ℕ → List ℕ → List Noted → DiskState
past_of content faults start calls = record {
  content = content;
  moment = length calls;
  image_at = IsImageAt start calls;
  synced_at = IsSyncedAt calls;
  faults = faults;
}

-- whether two calls are of one kind
abbrev pub is_kind : DiskCall → DiskCall → Bool
is_kind Length Length = true
is_kind ReadAt ReadAt = true
is_kind WriteAt WriteAt = true
is_kind Sync Sync = true
is_kind _ _ = false

-- how many calls of this kind a log has
abbrev pub count_of : DiskCall → List Noted → ℕ
count_of call calls = count_by (λ noted. is_kind noted.call call) calls

-- the next call of this kind is one of those that are to fail
abbrev pub Lists : List Failing → List Noted → DiskCall → Type 0
Lists failing calls call = Contains failing (record { call = call; nth = count_of call calls + 1 })
