use Rattle.std.proofs.Common.{take}
use Rattle.std.specs.List.{AllByRecursion}
use Rattle.dobj_model.specs.Name.{IsName}
use Rattle.record_core.proofs.kept.recall_names.Given as goal

abbrev pub invariant-loop-i : goal.invariant-loop-i
invariant-loop-i l = AllByRecursion (λ e. IsName e.id) (take l.i l.elements)
