-- What making a file leaves.
use Rattle.std.specs.Prelude.{◌≡◌, ◌≢◌, ◌⊎◌, ℕ, ◌≤◌, ◌<◌, List, [], ◌∷◌, ◌++◌, length, drop}
use Rattle.std.specs.Option.{ForSome}
use Rattle.base_core.specs.Causes.{Rose}
use Rattle.disk_core.specs.Disk.{DiskState, IsImageNow, IsSettled, SamePast, SameSyncs}
use Rattle.disk_core.specs.Runs.{LeavesSince, LeavesAlone}
use Rattle.journal_core.specs.Layout.{version_of, closed_gate}
use Rattle.journal_core.specs.File.{header, HoldsAt, Holds, IsNotAStore}
use Rattle.journal_core.specs.declared.layout.Format.TheVariants.{Second}
use Rattle.journal_core.specs.declared.create.InitFault.{InitFault}
use Rattle.journal_core.specs.declared.create.InitFault.TheVariants.{NotEmpty, DiskFault}

-- the header of a new file, the version byte and a closed gate, with this byte as the first
abbrev pub new_file : ℕ → ℕ → List ℕ
new_file first area = first ∷ (drop 1 (header area 0) ++ version_of Second ∷ closed_gate ∷ [])

-- the first letter of the text that begins a file
abbrev pub first_letter : ℕ
first_letter = 68

-- how many bytes a new file has
abbrev pub new_length : ℕ
new_length = 34

-- what each refusal says of the file
abbrev pub IsInitCause : List ℕ → InitFault → Type 0
IsInitCause file (NotEmpty count) = (count ≡ length file) × (file ≢ [])
IsInitCause file DiskFault = Unit {0}

-- each image of the disk is the empty file
abbrev pub IsBlank : DiskState → Type 0
IsBlank state = (image : List ℕ) → IsImageNow state image → image ≡ []

-- A file is made in an empty one, from `old` to `new`. From the first sync of that run on, each image is no store or
-- holds the empty list. None has more bytes than were first written, if each was empty at the beginning.
pub record Founds (old new : DiskState) : Type 0 where
  pub later : old.moment ≤ new.moment
  pub same : SamePast old new
  pub same_syncs : SameSyncs old new
  pub small : IsBlank old → LeavesSince new old.moment (λ image. length image ≤ new_length)
  pub from : (since : ℕ) → old.moment < since → new.synced_at since
      → LeavesSince new since (λ image. IsNotAStore image ⊎ Holds Second image [])

-- a sync succeeded in that run
abbrev pub HasSynced : DiskState → DiskState → Type 0
HasSynced old new = (moment : ℕ) × (old.moment < moment) × (moment ≤ new.moment) × new.synced_at moment

-- The file was empty. It is a new file now, whose text is whole, and holds the empty list. A sync succeeded, and every
-- image is the file.
pub record MakesFile (before after : DiskState) (area : ℕ) : Type 0 where
  pub empty : ForSome before.content (λ file. file ≡ [])
  pub bytes : ForSome after.content (λ file. file ≡ new_file first_letter area)
  pub holds : ForSome after.content (λ file. HoldsAt Second file area 0 [])
  pub settled : IsSettled after
  pub crash : ForSome after.content (λ _. Founds before after × HasSynced before after)
  pub count : before.faults ≤ after.faults
  pub clock : before.moment ≤ after.moment

-- `NotEmpty` comes exactly when the file's length isn't 0, and then nothing was written; so does nothing change in any
-- file that has bytes. The only other fault is the disk's, which has counted it.
pub record IsInitRefused (before after : DiskState) (refusal : InitFault) : Type 0 where
  pub cause : ForSome before.content (λ file. IsInitCause file refusal)
  pub unchanged : (count : ℕ) → refusal ≡ NotEmpty count → (0 < count) × LeavesAlone before after
  pub spared : ForSome before.content (λ file. file ≢ [] → LeavesAlone before after)
  pub disk_fault : refusal ≡ DiskFault → Rose before.faults after.faults
  pub crash : refusal ≡ DiskFault
      → ForSome after.content (λ _. ForSome before.content (λ file. file ≡ [] → Founds before after))
  pub counted : before.faults ≤ after.faults
  pub clock : before.moment ≤ after.moment
