use Rattle.std.proofs.Common.{map, take, ap, sym, subst, ◌∙◌, arith}
use Rattle.doip_json.specs.Value.{values_from}
use Rattle.doip_json.specs.Sound.{AreSound}
use Rattle.doip_json.proofs.Soundness.{AreSound-append}
use Rattle.dobj_model.specs.Lengths.{items_total}
use Rattle.dobj_model.specs.Shown.{element_form}
use Rattle.dobj_model.proofs.Forms.{elements_next, items_total-append}
use Rattle.dobj_model.proofs.measure.elements_length.Goals as goal

pub loop-i-preserved : goal.loop-i-preserved
loop-i-preserved c =
    let es = c.args.elements.now in
    let l = c.loop-i in
    let v = element_form c.index-elements-i.result in
    let next = elements_next es l.i c.index-elements-i.result c.index-elements-i.is c.loop-i-test.true in
    let grown = ap items_total next ∙ items_total-append (map element_form (take l.i es)) v in (
      omega (
        arith,
        grown,
        l.invariant.0,
        c.element_length.ensures.length,
        c.saturating_add.ensures,
        c.saturating_add-total.ensures,
      ),
      subst (λ vs. AreSound (values_from vs)) (sym next)
          (AreSound-append (map element_form (take l.i es)) v l.invariant.1 c.element_length.ensures.sound),
    )
