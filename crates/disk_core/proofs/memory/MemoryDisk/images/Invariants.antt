use Rattle.std.proofs.Common.{◌≡◌, reverse, take}
use Rattle.std.specs.List.{All}
use Rattle.disk_core.specs.Past.{file_after, IsImage}
use Rattle.disk_core.proofs.memory.MemoryDisk.images.Given as goal

abbrev pub invariant-calls : goal.invariant-calls
invariant-calls l = record {
  file : l.file.items ≡ file_after l.self.start.items (reverse (take l.noted-index l.self.log.calls.items));
  left : All (IsImage l.self.start.items (reverse (take l.noted-index l.self.log.calls.items))) l.images;
}
