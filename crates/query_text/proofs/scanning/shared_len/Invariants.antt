use Rattle.std.proofs.Common.{length, ◌-◌, ◌≡◌, ◌≤◌, take}
use Rattle.query_text.proofs.scanning.shared_len.Given as goal

abbrev pub invariant-loop-same : goal.invariant-loop-same
invariant-loop-same l = record {
  text : l.same ≤ length l.bytes;
  word : l.same ≤ length l.word;
  same : take l.same l.bytes ≡ take l.same l.word;
}

abbrev pub decreases-loop-same : goal.decreases-loop-same
decreases-loop-same l = length l.bytes - l.same
