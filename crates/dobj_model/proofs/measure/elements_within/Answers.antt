use Rattle.std.proofs.Common.{◌≤◌, ◌+◌, map, take, ap, refl, ◌∙◌, arith}
use Rattle.doip_json.specs.Value.{depth_of, deepest_value, values_from}
use Rattle.doip_json.proofs.Building.{deepest_value-append}
use Rattle.dobj_model.specs.Shown.{element_form}
use Rattle.dobj_model.proofs.Forms.{elements_next, element_within_all}
use Rattle.dobj_model.proofs.measure.elements_within.Goals as goal

pub returns-then-not-element_within : goal.returns-then-not-element_within
returns-then-not-element_within c =
    let deep =
    element_within_all c.args.elements.now c.loop-i.i c.index-elements-i.result c.index-elements-i.is
    c.loop-i-test.true in
    (λ no. absurd (cc), λ shallow. c.if-not-element_within.ensures.1 (omega (arith, deep)))

pub loop-i-preserved : goal.loop-i-preserved
loop-i-preserved c =
    let es = c.args.elements.now in
    let next = elements_next es c.loop-i.i c.index-elements-i.result c.index-elements-i.is c.loop-i-test.true in
    let grown =
    ap (λ vs. deepest_value (values_from vs)) next
    ∙ deepest_value-append (map element_form (take c.loop-i.i es)) (element_form c.index-elements-i.result) in
    let shallow : depth_of (element_form c.index-elements-i.result) ≤ 62 = c.if-not-element_within.ensures.0 refl in
    let goal : deepest_value (values_from (map element_form (take (c.loop-i.i + 1) es))) ≤ 62 =
    omega (arith, grown, shallow, c.loop-i.invariant) in goal
