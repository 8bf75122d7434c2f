-- What contracts see of a journal, and what a commit does.
use Rattle.std.specs.Prelude.{◌≡◌, ◌≢◌, ◌⊎◌, ◌↔◌, ℕ, ◌+◌, ◌-◌, ◌^◌, ◌<◌, ◌≤◌, min, List, [], ◌∷◌, ◌++◌, length, Result, Some, IsSome, IfErr, OnErr, IsErrOf}
use Rattle.std.specs.List.{sum_by}
use Rattle.std.specs.Option.{ForSome}
use Rattle.base_core.specs.Causes.{Rose}
use Rattle.disk_core.specs.Disk.{DiskState, IsSettled, written}
use Rattle.disk_core.specs.Runs.{LeavesOnly, LeavesSince}
use Rattle.disk_core.specs.declared.disk.Disk.{Ghosts}
use Rattle.journal_core.specs.Layout.{most_number, open_gate, record_overhead}
use Rattle.journal_core.specs.File.{HoldsAt, listed, base_of, staged_records}
use Rattle.journal_core.specs.declared.layout.Format.{Format}
use Rattle.journal_core.specs.declared.layout.Format.TheVariants.{Second}
use Rattle.journal_core.specs.declared.journal.CommitFault.{CommitFault}
use Rattle.journal_core.specs.declared.journal.CommitFault.TheVariants.{Full, DiskFault}
use Rattle.journal_core.specs.declared.journal.Journal.{Journal}
use Rattle.journal_core.specs.declared.records.Record.{Record}
use Rattle.journal_core.specs.declared.records.Stamp.{Stamp}

-- one record, as a list
abbrev pub one : Stamp → List ℕ → List Record
one stamp body = record { stamp = stamp; body = body } ∷ []

-- the number of a record is one that a file can have
abbrev pub IsNumbered : Record → Type 0
IsNumbered entry = entry.stamp.number ≤ most_number

-- the bytes that a record takes: its gate, the fields, the body and the digest
abbrev pub record_length : Record → ℕ
record_length entry = record_overhead + length entry.body

-- the bytes that records take
abbrev pub room_for : List Record → ℕ
room_for entries = sum_by record_length entries

-- what must be free to add them: the records and the next gate
abbrev pub asked_for : List Record → ℕ
asked_for entries = room_for entries + 1

-- a number as it is reported: one past 2^64 - 1 as that number
abbrev pub told : ℕ → ℕ
told number = min number (2 ^ 64 - 1)

-- If the disk reports its content, the file holds these records in the area of this side, and each image is what a read
-- gives.
pub record KeepsIn (format : Format) (state : DiskState) (area side : ℕ) (entries : List Record) : Type 0 where
  pub holds : ForSome state.content (λ file. HoldsAt format file area side entries)
  pub settled : IsSettled state

-- the file holds the list, with these records more or without them
abbrev pub HoldsEither : ℕ → ℕ → List Record → List Record → List ℕ → Type 0
HoldsEither area side kept entries file =
    HoldsAt Second file area side kept ⊎ HoldsAt Second file area side (kept ++ entries)

module _ {D : Type 0} {g : Ghosts D} where
  -- the disk
  abbrev pub disk_of : Journal D g → D
  disk_of journal = journal.disk

  -- what contracts see of it
  abbrev pub state_of : Journal D g → DiskState
  state_of journal = g.state (disk_of journal)

  -- the length of an area
  abbrev pub area_of : Journal D g → ℕ
  area_of journal = journal.area

  -- the area that counts, 0 or 1
  abbrev pub side_of : Journal D g → ℕ
  side_of journal = journal.side

  -- the number of bytes before the closed gate
  abbrev pub used_of : Journal D g → ℕ
  used_of journal = journal.used

  -- the place of the closed gate in the file
  abbrev pub gate_of : Journal D g → ℕ
  gate_of journal = base_of (area_of journal) (side_of journal) + used_of journal

  -- The journal keeps these records: if its disk reports its content, the file holds them in the area of the journal's
  -- side, `used` is the room that they take, and each image is what a read gives.
  pub record Keeps (journal : Journal D g) (entries : List Record) : Type 0 where
    pub list : KeepsIn Second (state_of journal) (area_of journal) (side_of journal) entries
    pub used : ForSome (state_of journal).content (λ _. used_of journal ≡ length (listed Second entries))

  -- Adding records is `Full` exactly when they and the next gate don't fit, and then it changed nothing. The only other
  -- fault is the disk's, which has counted it. After a fault `used` is as before.
  pub record HasCommitCause {T : Type 0} (old new : Journal D g) (entries : List Record)
      (result : Result T CommitFault) : Type 0 where
    pub full : IsErrOf result (Full (used_of old) (told (asked_for entries)))
        ↔ (area_of old < used_of old + asked_for entries)
    pub unchanged : area_of old < used_of old + asked_for entries → new ≡ old
    pub others : IfErr result (λ fault.
        (fault ≡ DiskFault) ⊎ (fault ≡ Full (used_of old) (told (asked_for entries))))
    pub disk_fault : IsErrOf result DiskFault → Rose (state_of old).faults (state_of new).faults
    pub count : (state_of old).faults ≤ (state_of new).faults
    pub used : OnErr result (used_of new ≡ used_of old)

  -- A crash at any moment of a commit leaves the list that the journal kept, with all of the records or none.
  abbrev pub SurvivesCommit : Journal D g → Journal D g → List Record → Type 0
  SurvivesCommit old new entries = ForSome (state_of new).content (λ _. (kept : List Record) → Keeps old kept
      → LeavesOnly (state_of old) (state_of new) (HoldsEither (area_of old) (side_of old) kept entries))

  -- The journal keeps these records too, and each image holds the list with them from this moment on, which is now. The
  -- file is the old one, with the records written after the closed gate and then that gate opened. No records change
  -- nothing.
  pub record Adds (old new : Journal D g) (entries : List Record) (moment : ℕ) : Type 0 where
    pub keeps : (kept : List Record) → Keeps old kept → Keeps new (kept ++ entries)
    pub durable : ForSome (state_of new).content (λ _. (kept : List Record) → Keeps old kept
        → LeavesSince (state_of new) moment
        (λ image. HoldsAt Second image (area_of old) (side_of old) (kept ++ entries)))
    pub now : moment ≡ (state_of new).moment
    pub used : used_of new ≡ used_of old + room_for entries
    pub bytes : ForSome (state_of old).content (λ file. entries ≢ [] → (state_of new).content
        ≡ Some (written (gate_of old) (open_gate ∷ []) (written (gate_of old + 1) (staged_records entries) file)))
    pub none : entries ≡ [] → new ≡ old

  -- what no commit changes: which area counts and how long it is; that the clock goes on, and that a disk which reports
  -- its content did so before
  pub record StaysInPlace (old new : Journal D g) : Type 0 where
    pub area : area_of new ≡ area_of old
    pub side : side_of new ≡ side_of old
    pub clock : (state_of old).moment ≤ (state_of new).moment
    pub reported : ForSome (state_of new).content (λ _. IsSome (state_of old).content)
