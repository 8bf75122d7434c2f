use Rattle.std.proofs.Common.{subst, refl}
use Rattle.std.proofs.lemmas.List.{take_all}
use Rattle.dobj_model.specs.Elements.{ids_of}
use Rattle.dobj_model.proofs.Distinct.{AreApart, apart_next, not_apart}
use Rattle.dobj_model.proofs.elements.differ.Goals as goal

pub returns-then-has_id : goal.returns-then-has_id
returns-then-has_id c = (
  λ no. absurd (cc),
  λ apart. absurd (not_apart c.args.items.now c.loop-i.i c.index-items-i.result
      c.index-items-i.is c.loop-i-test.true (c.if-has_id.ensures.0 refl) apart),
)

pub loop-i-preserved : goal.loop-i-preserved
loop-i-preserved c =
    apart_next c.args.items.now c.loop-i.i c.index-items-i.result c.index-items-i.is c.loop-i-test.true
    c.loop-i.invariant (λ found. absurd (let both = c.if-has_id.ensures.1 found in cc))

pub returns : goal.returns
returns c = (
  λ _. subst (λ es. AreApart (ids_of es))
      (take_all c.loop-i.i c.args.items.now c.loop-i-test.false) c.loop-i.invariant,
  λ _. refl,
)
