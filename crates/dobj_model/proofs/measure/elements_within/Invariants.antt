use Rattle.std.proofs.Common.{◌≤◌, map, take}
use Rattle.doip_json.specs.Value.{deepest_value, values_from}
use Rattle.dobj_model.specs.Shown.{element_form}
use Rattle.dobj_model.proofs.measure.elements_within.Given as goal

abbrev pub invariant-loop-i : goal.invariant-loop-i
invariant-loop-i l = deepest_value (values_from (map element_form (take l.i l.elements))) ≤ 62
