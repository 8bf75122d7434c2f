-- What a compaction of a store does, and when a store is compacted at its opening. This project's own.
use Rattle.std.specs.Prelude.{◌≡◌, ◌⊎◌, ℕ, ◌+◌, ◌*◌, ◌-◌, ◌^◌, ◌<◌, min, List, map, Option, None, Some}
use Rattle.std.specs.Option.{ForSome}
use Rattle.base_core.specs.Causes.{Rose}
use Rattle.disk_core.specs.declared.disk.Disk.{Ghosts}
use Rattle.journal_core.specs.File.{Holds}
use Rattle.journal_core.specs.Journal.{room_for, told}
use Rattle.journal_core.specs.Turn.{other_side, turned}
use Rattle.journal_core.specs.declared.journal.CommitFault.{CommitFault}
use Rattle.journal_core.specs.declared.journal.CommitFault.TheVariants as commits
use Rattle.journal_core.specs.declared.journal.Room.{Room}
use Rattle.journal_core.specs.declared.layout.Format.TheVariants.{Second}
use Rattle.journal_core.specs.declared.records.Record.{Record}
use Rattle.record_core.specs.Body.{body}
use Rattle.repo_state.specs.Compacted.{compacted}
use Rattle.repo_state.specs.Contents.{Contents, Stamped}
use Rattle.repo_store.specs.Saved.{room_in, area_in, side_in, content_in, moment_in, faults_in, Reports, KeepsRecords, LeavesFrom}
use Rattle.repo_store.specs.Store.{Seen}
use Rattle.repo_store.specs.declared.compaction.CompactFault.{CompactFault}
use Rattle.repo_store.specs.declared.compaction.CompactFault.TheVariants as compact
use Rattle.repo_store.specs.declared.compaction.ShrinkFault.{ShrinkFault}
use Rattle.repo_store.specs.declared.compaction.ShrinkFault.TheVariants as shrink

-- the record of a change
abbrev pub recorded : Stamped → Record
recorded s = record { stamp = s.stamp; body = body s.change }

-- the list of a compacted journal: the counter, and then each object by ascending identifier, all with the number of the
-- contents
abbrev pub compacted_list : Contents → List Record
compacted_list c = map recorded (compacted c)

-- what is used of an area that has this list alone
abbrev pub compacted_used : Contents → ℕ
compacted_used c = 1 + room_for (compacted_list c)

-- the room of an area of this length that has this list alone
abbrev pub compacted_room : ℕ → Contents → Room
compacted_room area c = record { used = compacted_used c; area = area }

-- An area is too short for the compacted list and a closed gate.
abbrev pub LacksRoom : ℕ → Contents → Type 0
LacksRoom area c = area < 2 + room_for (compacted_list c)

-- A list is compacted at opening if it takes more than half of its area, and the compacted one takes less.
abbrev pub WantsCompaction : Option Room → Contents → Type 0
WantsCompaction None c = ⊥
WantsCompaction (Some room) c = (room.area < 2 * room.used) × (compacted_used c < room.used)

module _ {D : Type 0} {g : Ghosts D} where
  -- The compacted list of the contents is in place of the list from before: in the other area, with the room that it
  -- takes. The file is the old one with that area written and then the side byte. Each image holds that list now.
  pub record Compacts (old new : Seen D g) (left : Room) : Type 0 where
    pub fits : LacksRoom (area_in old.journal) old.contents → ⊥
    pub left_is : left ≡ compacted_room (area_in old.journal) old.contents
    pub room : room_in new.journal ≡ Some left
    pub side : side_in new.journal ≡ other_side (side_in old.journal)
    pub not_closed : new.closed ≡ None
    pub keeps : (kept : List Record) → KeepsRecords old.journal kept
        → KeepsRecords new.journal (compacted_list old.contents)
    pub durable : (kept : List Record) → KeepsRecords old.journal kept → Reports new.journal
        → LeavesFrom new.journal (moment_in new.journal) (λ image. Holds Second image (compacted_list old.contents))
    pub bytes : ForSome (content_in old.journal) (λ file. content_in new.journal
        ≡ Some (turned (area_in old.journal) (side_in old.journal) (compacted_list old.contents) file))

  -- The disk failed, and has counted it. The store is closed at that count, and its room is as it was.
  pub record ClosesStore (old new : Seen D g) : Type 0 where
    pub rose : Rose (faults_in old.journal) (faults_in new.journal)
    pub closed : new.closed ≡ Some (min (faults_in new.journal) (2 ^ 64 - 1))
    pub room : room_in new.journal ≡ room_in old.journal

  -- Why a compaction failed. It is `Full` exactly if the list doesn't fit into an empty area, unless memory ran out, and
  -- then nothing changed.
  abbrev pub HasCompactCause : Seen D g → Seen D g → CompactFault → Type 0
  HasCompactCause old new (compact.Full used asked) = LacksRoom (area_in old.journal) old.contents
      × (used ≡ 2) × (asked ≡ told (room_for (compacted_list old.contents))) × (new ≡ old)
  HasCompactCause old new compact.DiskFault = (LacksRoom (area_in old.journal) old.contents → ⊥) × ClosesStore old new
  HasCompactCause old new compact.Memory = new ≡ old

  -- the same of a list that was made, as the journal says it
  abbrev pub HasRewriteCause : Seen D g → Seen D g → CommitFault → Type 0
  HasRewriteCause old new (commits.Full used asked) = HasCompactCause old new (compact.Full used asked)
  HasRewriteCause old new commits.DiskFault = HasCompactCause old new compact.DiskFault

  -- The store wants a compaction and has had one, or it wants none and is as it was.
  abbrev pub Shrinks : Seen D g → Seen D g → Room → Type 0
  Shrinks old new left =
      (WantsCompaction (room_in old.journal) old.contents × Compacts old new left)
      ⊎ ((WantsCompaction (room_in old.journal) old.contents → ⊥) × (room_in old.journal ≡ Some left) × (new ≡ old))

  -- Why it was not done. The disk can fail only in a compaction that is wanted.
  abbrev pub HasShrinkCause : Seen D g → Seen D g → ShrinkFault → Type 0
  HasShrinkCause old new shrink.DiskFault =
      WantsCompaction (room_in old.journal) old.contents × ClosesStore old new
  HasShrinkCause old new shrink.Memory = new ≡ old
