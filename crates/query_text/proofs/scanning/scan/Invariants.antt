use Rattle.std.proofs.Common.{length, ◌-◌}
use Rattle.query_text.proofs.ScanLemmas.{ScanTo}
use Rattle.query_text.proofs.scanning.scan.Given as goal

abbrev pub invariant-loop-within : goal.invariant-loop-within
invariant-loop-within l = ScanTo l.within l.bytes l.len l.text.items l.taking

abbrev pub decreases-loop-within : goal.decreases-loop-within
decreases-loop-within l = length l.bytes - l.len
