use Rattle.std.proofs.Common.{refl}
use Rattle.doip_json.specs.Meaning.{value_of}
use Rattle.dobj_model.proofs.Texts.{text_here, texts_next}
use Rattle.dobj_model.proofs.attributes.are_texts.Goals as goal

pub returns-then-not-is_text : goal.returns-then-not-is_text
returns-then-not-is_text c = (
  λ no. absurd (cc),
  λ all. c.if-not-is_text.ensures.1
      (text_here c.args.items.now c.loop-i.i (value_of c.item.result.now) c.item.ensures all),
)

pub loop-i-preserved : goal.loop-i-preserved
loop-i-preserved c =
    texts_next c.args.items.now c.loop-i.i (value_of c.item.result.now) c.item.ensures c.loop-i.invariant
    (c.if-not-is_text.ensures.0 refl)
