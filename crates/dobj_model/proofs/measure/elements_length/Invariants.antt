use Rattle.std.proofs.Common.{◌≡◌, ◌-◌, ◌^◌, min, map, take}
use Rattle.doip_json.specs.Value.{values_from}
use Rattle.doip_json.specs.Sound.{AreSound}
use Rattle.dobj_model.specs.Lengths.{items_total}
use Rattle.dobj_model.specs.Shown.{element_form}
use Rattle.dobj_model.proofs.measure.elements_length.Given as goal

abbrev pub invariant-loop-i : goal.invariant-loop-i
invariant-loop-i l =
    (l.total ≡ min (items_total (map element_form (take l.i l.elements))) (2 ^ 64 - 1))
    × AreSound (values_from (map element_form (take l.i l.elements)))
