use Rattle.std.proofs.Common.{◌≡◌, [], drop}
use Rattle.dobj_draft.specs.Draft.{elements_after}
use Rattle.dobj_draft.proofs.listed.elements_in_order.Given as goal

abbrev pub invariant-loop-i : goal.invariant-loop-i
invariant-loop-i l = elements_after [] l.items ≡ elements_after l.elements.items (drop l.i l.items)
