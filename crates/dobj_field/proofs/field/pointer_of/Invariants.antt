use Rattle.std.proofs.Common.{length, ◌-◌}
use Rattle.dobj_field.proofs.PointerLemmas.{ReadTo}
use Rattle.dobj_field.proofs.field.pointer_of.Given as goal

abbrev pub invariant-loop-at : goal.invariant-loop-at
invariant-loop-at l = ReadTo l.text l.at l.tokens.items l.token.items

abbrev pub decreases-loop-at : goal.decreases-loop-at
decreases-loop-at l = length l.text - l.at
