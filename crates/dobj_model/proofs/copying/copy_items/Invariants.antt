use Rattle.std.proofs.Common.{◌≡◌, take}
use Rattle.dobj_model.proofs.copying.copy_items.Given as goal

abbrev pub invariant-loop-i : goal.invariant-loop-i
invariant-loop-i l = l.made.items ≡ take l.i l.items
