use Rattle.std.proofs.Common.{◌≡◌, ◌+◌, [], drop, Err, sym, ap, subst, ◌∙◌, arith}
use Rattle.doip_json.specs.Meaning.{value_of}
use Rattle.dobj_draft.specs.Draft.{◌>>=◌, with_element, elements_after, Reads}
use Rattle.dobj_model.proofs.Between.{drop_here}
use Rattle.dobj_draft.proofs.Drafts.{fails_on}
use Rattle.dobj_draft.proofs.listed.elements_in_order.Goals as goal

pub loop-i-preserved : goal.loop-i-preserved
loop-i-preserved c =
    let vs = c.args.items.now in
    let l = c.loop-i in
    let here = ap (elements_after l.elements.items) (drop_here vs l.i (value_of c.item.result.now) c.item.ensures) in
    l.invariant ∙ (here ∙ ap (λ r. r >>= (λ more. elements_after more (drop (l.i + 1) vs))) c.in_ok-add_element.ensures)

pub returns-in_err-add_element : goal.returns-in_err-add_element
returns-in_err-add_element c =
    let vs = c.args.items.now in
    let l = c.loop-i in
    let v = value_of c.item.result.now in
    let here = ap (elements_after l.elements.items) (drop_here vs l.i v c.item.ensures) in
    let fault = c.in_err-add_element.field-0.0 in
    let failed : c.from_residual.result ≡ Err fault = grind arith in
    subst (λ r. Reads (λ v. v.items) r (elements_after [] vs)) (sym failed)
    (fails_on fault (with_element l.elements.items v) (elements_after [] vs)
    (λ e. l.invariant ∙ (here ∙ ap (λ r. r >>= (λ more. elements_after more (drop (l.i + 1) vs))) e))
    c.in_err-add_element.ensures)
