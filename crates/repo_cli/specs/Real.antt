-- What contracts see of the real objects: their counts, and nothing of what they hold.
use Rattle.std.specs.Prelude.{◌≡◌, ℕ, None}
use Rattle.disk_core.specs.Disk.{DiskState}
use Rattle.repo_cli.specs.declared.faults.Faults.{Faults}

-- how often the calls of an object have failed
abbrev pub count_of : Faults → ℕ
count_of faults = faults.count

-- none has failed
abbrev pub HasNoFault : Faults → Type 0
HasNoFault faults = count_of faults ≡ 0

-- a file reports neither its content nor what a crash may leave, and its clock stands
abbrev pub real_disk : ℕ → DiskState
real_disk faults = record {
  content = None;
  moment = 0;
  image_at = λ moment image. ⊥;
  synced_at = λ moment. ⊥;
  faults = faults;
}
