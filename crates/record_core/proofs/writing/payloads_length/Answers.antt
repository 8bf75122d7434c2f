use Rattle.std.proofs.Common.{length, ap, subst, sym, arith}
use Rattle.dobj_model.specs.declared.elements.Element.{Element}
use Rattle.dobj_model.specs.Elements.{AreElements}
use Rattle.record_core.proofs.Written.{length_more, small_here}
use Rattle.record_core.proofs.writing.payloads_length.Goals as goal

pub loop-i-preserved : goal.loop-i-preserved
loop-i-preserved c =
    let es = c.as_slice-items.result.now in
    let e = c.index-items-i.result in
    let more = length_more es c.loop-i.i e c.index-items-i.is c.loop-i-test.true in
    let kept = subst AreElements (sym c.as_slice-items.ensures.items) c.as_slice-items.ensures.elements in
    let small = small_here es c.loop-i.i e kept c.index-items-i.is c.loop-i-test.true in
    let lent = ap length c.get.ensures in
    let same = ap (λ (x : Element). length x.bytes) c.index-items-i.is in
    record {
      length_is = omega (arith, more, lent, same, c.loop-i.invariant.length_is);
      bound = omega (arith, small, lent, same, c.loop-i.invariant.bound);
    }
