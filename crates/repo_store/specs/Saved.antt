-- An optional journal, and what a crash may leave of it.
use Rattle.std.specs.Prelude.{◌⊎◌, ◌↔◌, ℕ, ◌+◌, ◌≤◌, ◌++◌, List, length, Option, None, Some, IsSome}
use Rattle.disk_core.specs.declared.disk.Disk.{Ghosts}
use Rattle.journal_core.specs.declared.journal.Journal.{Journal}
use Rattle.journal_core.specs.declared.journal.Room.{Room}
use Rattle.journal_core.specs.declared.records.Record.{Record}
use Rattle.journal_core.specs.declared.layout.Format.TheVariants.{Second}
use Rattle.journal_core.specs.File.{Holds}
use Rattle.journal_core.specs.Journal.{disk_of, state_of, area_of, side_of, used_of, Keeps}

module _ {D : Type 0} {g : Ghosts D} where
  -- how much of the area is used, if there is one
  abbrev pub room_in : Option (Journal D g) → Option Room
  room_in None = None
  room_in (Some journal) = Some (record { used = used_of journal; area = area_of journal })

  -- the length of an area, 0 without a disk
  abbrev pub area_in : Option (Journal D g) → ℕ
  area_in None = 0
  area_in (Some journal) = area_of journal

  -- the area that counts, 0 without a disk
  abbrev pub side_in : Option (Journal D g) → ℕ
  side_in None = 0
  side_in (Some journal) = side_of journal

  -- the file, if there is a disk and it reports its content
  abbrev pub content_in : Option (Journal D g) → Option (List ℕ)
  content_in None = None
  content_in (Some journal) = (state_of journal).content

  -- the disk, if there is one
  abbrev pub disk_in : Option (Journal D g) → Option D
  disk_in None = None
  disk_in (Some journal) = Some (disk_of journal)

  -- the disk's clock, 0 without a disk
  abbrev pub moment_in : Option (Journal D g) → ℕ
  moment_in None = 0
  moment_in (Some journal) = (state_of journal).moment

  -- a crash at this moment, up to now, may leave this image
  abbrev pub left_in : Option (Journal D g) → ℕ → List ℕ → Type 0
  left_in None moment image = ⊥
  left_in (Some journal) moment image = (state_of journal).image_at moment image

  -- how often the disk has failed
  abbrev pub faults_in : Option (Journal D g) → ℕ
  faults_in None = 0
  faults_in (Some journal) = (state_of journal).faults

  -- there is a disk, and it reports its content
  abbrev pub Reports : Option (Journal D g) → Type 0
  Reports None = ⊥
  Reports (Some journal) = IsSome (state_of journal).content

  -- the journal keeps these records, if there is one
  abbrev pub KeepsRecords : Option (Journal D g) → List Record → Type 0
  KeepsRecords None records = Unit {0}
  KeepsRecords (Some journal) records = Keeps journal records

  -- what a crash from that moment on leaves has P
  abbrev pub LeavesFrom : Option (Journal D g) → ℕ → (List ℕ → Type 0) → Type 0
  LeavesFrom now since P =
      (moment : ℕ) (image : List ℕ) → since ≤ moment → moment ≤ moment_in now → left_in now moment image → P image

  -- what a crash might have left up to the moment of `old` is the same in `new`
  abbrev pub KeepsPast : Option (Journal D g) → Option (Journal D g) → Type 0
  KeepsPast old new =
      (moment : ℕ) (image : List ℕ) → moment ≤ moment_in old → left_in old moment image ↔ left_in new moment image

  -- what a crash might have left before is the same, and what a crash since then leaves has P
  pub record LeavesBetween (old new : Option (Journal D g)) (P : List ℕ → Type 0) : Type 0 where
    pub later : moment_in old ≤ moment_in new
    pub same : KeepsPast old new
    pub each : LeavesFrom new (moment_in old) P

-- the image holds these records, with the others after them or without
abbrev pub HoldsOrMore : List Record → List Record → List ℕ → Type 0
HoldsOrMore kept more image = Holds Second image kept ⊎ Holds Second image (kept ++ more)

-- the room of an area with one record more
abbrev pub room_saved : List ℕ → Option Room → Option Room
room_saved bytes None = None
room_saved bytes (Some room) = Some (record { used = room.used + length bytes + 57; area = room.area })
