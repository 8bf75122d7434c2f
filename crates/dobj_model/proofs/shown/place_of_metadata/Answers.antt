use Rattle.std.proofs.Common.{◌≡◌, codes, sym, ap, ◌∙◌, below_more, arith}
use Rattle.std.specs.declared.cmp.Ordering.TheVariants.{Less, Greater}
use Rattle.doip_json.specs.Places.{key_of}
use Rattle.doip_json.proofs.Ascending.{compared, equal_same}
use Rattle.doip_json.proofs.Found.{key_from_keys}
use Rattle.dobj_model.proofs.Written.{not_here, gap_here}
use Rattle.dobj_model.proofs.shown.place_of_metadata.Goals as goal

pub loop-i-preserved : goal.loop-i-preserved
loop-i-preserved c =
    let es = c.args.attributes.now in
    let here : key_of es c.loop-i.i ≡ c.key_at.result.now =
    key_from_keys es c.loop-i.i c.key_at.result.now c.key_at.ensures in
    let less : compared (key_of es c.loop-i.i) (codes "metadata") ≡ Less =
    ap (λ k. compared k (codes "metadata")) (here ∙ sym c.get.ensures.text) ∙ (sym c.cmp.ensures ∙ c.in-Less.is) in
    below_more (λ j. compared (key_of es j) (codes "metadata") ≡ Less) c.loop-i.i c.loop-i.invariant less

pub returns-in-Greater : goal.returns-in-Greater
returns-in-Greater c =
    let es = c.args.attributes.now in
    let here : key_of es c.loop-i.i ≡ c.key_at.result.now =
    key_from_keys es c.loop-i.i c.key_at.result.now c.key_at.ensures in
    let greater : compared (key_of es c.loop-i.i) (codes "metadata") ≡ Greater =
    ap (λ k. compared k (codes "metadata")) (here ∙ sym c.get.ensures.text) ∙ (sym c.cmp.ensures ∙ c.in-Greater.is) in
    gap_here es (codes "metadata") c.loop-i.i c.len-i-end.ensures.ascending
    (omega (arith, c.loop-i-test.true)) c.loop-i.invariant greater

pub unreachable-requires : goal.unreachable-requires
unreachable-requires c =
    let es = c.args.attributes.now in
    let here : key_of es c.loop-i.i ≡ c.key_at.result.now =
    key_from_keys es c.loop-i.i c.key_at.result.now c.key_at.ensures in
    let same = equal_same c.get.result.now (codes "metadata") (sym c.cmp.ensures ∙ c.in-Equal.is) in
    not_here es (codes "metadata") c.loop-i.i c.len-i-end.ensures.ascending c.requires
    (omega (arith, c.loop-i-test.true)) (here ∙ (sym c.get.ensures.text ∙ same))
