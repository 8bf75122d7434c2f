use Rattle.std.proofs.Common.{take}
use Rattle.doip_json.specs.Value.{values_from}
use Rattle.dobj_model.specs.Object.{AreTexts}
use Rattle.dobj_model.proofs.attributes.are_texts.Given as goal

abbrev pub invariant-loop-i : goal.invariant-loop-i
invariant-loop-i l = AreTexts (values_from (take l.i l.items))
