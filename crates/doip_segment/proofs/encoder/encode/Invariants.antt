use Rattle.std.proofs.Common.{◌≡◌, take}
use Rattle.std.specs.List.{flat_map}
use Rattle.doip_segment.specs.Canonical.{segment_text}
use Rattle.doip_segment.proofs.encoder.encode.Given as goal

abbrev pub invariant-loop-i : goal.invariant-loop-i
invariant-loop-i l = l.out.items ≡ flat_map segment_text (take l.i l.message.segments)
