-- What contracts see of a fused disk.
use Rattle.std.specs.Prelude.{◌≡◌, ℕ, ◌+◌, ◌-◌, ◌<◌, Result, OnErr, IsErr}
use Rattle.base_core.specs.Causes.{Rose}
use Rattle.disk_core.specs.Disk.{DiskState}
use Rattle.disk_core.specs.declared.fused.FusedDisk.{FusedDisk}

-- the disk inside
abbrev pub inner_of : {D : Type 0} → FusedDisk D → D
inner_of disk = disk.inner

-- how many calls it still lets pass
abbrev pub passes_of : {D : Type 0} → FusedDisk D → ℕ
passes_of disk = disk.passes

-- how many calls it refused
abbrev pub refused_of : {D : Type 0} → FusedDisk D → ℕ
refused_of disk = disk.refused

-- the disk inside, with the refused calls as faults
abbrev pub state_by : {D : Type 0} → (D → DiskState) → FusedDisk D → DiskState
state_by state disk = record {
  content = (state (inner_of disk)).content;
  moment = (state (inner_of disk)).moment;
  image_at = (state (inner_of disk)).image_at;
  synced_at = (state (inner_of disk)).synced_at;
  faults = (state (inner_of disk)).faults + refused_of disk;
}

-- As long as it lets a call pass, a fault is one of the disk inside. After that each call fails.
pub record Fuses {D T E : Type 0} (state : D → DiskState) (old new : FusedDisk D) (result : Result T E) : Type 0 where
  pub passes : passes_of new ≡ passes_of old - 1
  pub lets : 0 < passes_of old → OnErr result (Rose (state (inner_of old)).faults (state (inner_of new)).faults)
  pub spent : passes_of old ≡ 0 → IsErr result
