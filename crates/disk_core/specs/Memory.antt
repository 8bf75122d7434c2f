-- What contracts see of a disk in memory.
use Rattle.std.specs.Prelude.{◌≡◌, ◌⊎◌, ℕ, ◌+◌, List, [], ◌∷◌, ◌++◌, Option, Some, None, if◌then◌else◌, ◌==◌, Result}
use Rattle.std.specs.Prelude.{is_ok, OnOk, OnErr}
use Rattle.std.specs.Option.{ForSome}
use Rattle.base_core.specs.Causes.{Rose}
use Rattle.disk_core.specs.Disk.{DiskState}
use Rattle.disk_core.specs.Past.{past_of, Lists}
use Rattle.disk_core.specs.declared.calls.DiskCall.{DiskCall}
use Rattle.disk_core.specs.declared.calls.Failing.{Failing}
use Rattle.disk_core.specs.declared.calls.Noted.{Noted}
use Rattle.disk_core.specs.declared.memory.MemoryDisk.{MemoryDisk}

-- the file, as long as its log found memory at every call
abbrev pub content_of : MemoryDisk → Option (List ℕ)
content_of disk = if disk.starved == 0 then Some disk.file.items else None

-- the log, the oldest call first
abbrev pub calls_of : MemoryDisk → List Noted
calls_of disk = disk.log.calls.items

-- the calls that are to fail
abbrev pub failing_of : MemoryDisk → List Failing
failing_of disk = disk.log.failing.items

-- the faults are the calls that were listed and those that found no memory; the clock is the number of calls
abbrev pub state_of : MemoryDisk → DiskState
state_of disk = past_of (content_of disk) (disk.log.failed + disk.starved) disk.start.items (calls_of disk)

-- A call fails exactly when the list says so, or if it finds no memory for the log, and then leaves the file as it was.
-- Unless memory was lacking the log is longer by this call.
pub record FollowsList {T E : Type 0} (old new : MemoryDisk) (noted : Noted) (result : Result T E) : Type 0 where
  pub listed : OnErr result (Lists (failing_of old) (calls_of old) noted.call ⊎ Rose old.starved new.starved)
  pub passed : OnOk result (Lists (failing_of old) (calls_of old) noted.call → ⊥)
  pub refused : OnErr result (ForSome (content_of new) (λ file. content_of old ≡ Some file))
  pub same_list : failing_of new ≡ failing_of old
  pub noted_last : ForSome (content_of new) (λ _. calls_of new ≡ calls_of old ++ noted ∷ [])

-- a call as it is written down
abbrev pub note : {T E : Type 0} → DiskCall → Result T E → ℕ → List ℕ → Noted
note call result place piece = record { call = call; done = is_ok result; place = place; bytes = piece }
