-- A commit that met a fault of the disk.
use Rattle.std.proofs.Common.{◌≡◌, inl, ℕ, ◌+◌, ◌≤◌, ◌<◌, List, Result, Ok, Err}
use Rattle.std.specs.Result.{IsErrAnd, IsErrOf}
use Rattle.base_core.specs.Causes.{Rose}
use Rattle.disk_core.specs.declared.disk.Disk.{Ghosts}
use Rattle.journal_core.specs.Journal.{state_of, area_of, used_of, told, asked_for, HasCommitCause}
use Rattle.journal_core.specs.declared.journal.CommitFault.{CommitFault}
use Rattle.journal_core.specs.declared.journal.CommitFault.TheVariants.{Full, DiskFault}
use Rattle.journal_core.specs.declared.journal.Journal.{Journal}
use Rattle.journal_core.specs.declared.records.Record.{Record}

pub not_full : {T : Type 0} (fault : CommitFault) (used asked : ℕ) → fault ≡ DiskFault → IsErrOf {T = T} (Err fault) (Full used asked) → ⊥
not_full fault used asked is other = absurd (cc)

pub by_disk : {D : Type 0} {g : Ghosts D} {T : Type 0} (old new : Journal D g) (entries : List Record) (result : Result T CommitFault)
    → IsErrAnd result (λ fault. fault ≡ DiskFault) → (area_of old < used_of old + asked_for entries → ⊥)
    → Rose (state_of old).faults (state_of new).faults → (state_of old).faults ≤ (state_of new).faults
    → used_of new ≡ used_of old → HasCommitCause old new entries result
by_disk old new entries (Ok x) is fits rose count used = absurd is
by_disk old new entries (Err fault) is fits rose count used = record {
  full = (
    (λ full. absurd (not_full fault (used_of old) (told (asked_for entries)) is full)),
    (λ over. absurd (fits over)),
  );
  unchanged = λ over. absurd (fits over);
  others = inl is;
  disk_fault = λ fault. rose;
  count = count;
  used = used;
}
