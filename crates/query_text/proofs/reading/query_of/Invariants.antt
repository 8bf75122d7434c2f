use Rattle.std.proofs.Common.{length, ◌-◌}
use Rattle.query_text.proofs.ReadLemmas.{ReadTo}
use Rattle.query_text.proofs.reading.query_of.Given as goal

abbrev pub invariant-loop-at : goal.invariant-loop-at
invariant-loop-at l = ReadTo l.bytes l.at l.nesting l.tokens.items

abbrev pub decreases-loop-at : goal.decreases-loop-at
decreases-loop-at l = length l.bytes - l.at
