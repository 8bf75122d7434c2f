-- What contracts see of a file as a disk: its count of faults, and whether one of its syncs has failed.
use Rattle.std.specs.Prelude.{◌≡◌, true}
use Rattle.disk_core.specs.Disk.{DiskState}
use Rattle.repo_cli.specs.Real.{count_of, real_disk}
use Rattle.repo_cli.specs.declared.disk.FileDisk.{FileDisk}

abbrev pub disk_state : FileDisk → DiskState
disk_state disk = real_disk (count_of disk.faults)

-- a sync of the file has failed, so none succeeds from then on
abbrev pub HasFailedSync : FileDisk → Type 0
HasFailedSync disk = disk.unsynced ≡ true
