use Rattle.std.proofs.Common.{◌≢◌, take}
use Rattle.std.specs.List.{AllPairs}
use Rattle.dobj_model.specs.Elements.{ids_of}
use Rattle.dobj_model.proofs.elements.differ.Given as goal

abbrev pub invariant-loop-i : goal.invariant-loop-i
invariant-loop-i l = AllPairs (λ a b. a ≢ b) (ids_of (take l.i l.items))
