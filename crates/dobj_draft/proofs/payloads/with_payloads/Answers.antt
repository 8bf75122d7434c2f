use Rattle.std.proofs.Common.{◌≡◌, suc, ◌+◌, ◌*◌, drop, Err, sym, ap, ap₂, subst, ◌∙◌, arith}
use Rattle.doip_segment.specs.Segments.{segment_of}
use Rattle.dobj_draft.specs.Draft.{◌>>=◌, with_bytes, payloads, Reads}
use Rattle.dobj_draft.proofs.Drafts.{fails_on}
use Rattle.dobj_draft.proofs.Pairs.{pair_step}
use Rattle.dobj_draft.proofs.payloads.with_payloads.Goals as goal

pub loop-pair-preserved : goal.loop-pair-preserved
loop-pair-preserved c =
    let segs = c.args.parts.now.segments in
    let l = c.loop-pair in
    let at = 2 * l.pair + 1 in
    let number : suc at + 2 ≡ suc (2 * (l.pair + 1) + 1) = omega arith in
    let place : at + 1 + 1 ≡ 2 * (l.pair + 1) + 1 = omega arith in
    l.invariant ∙ (pair_step segs at l.elements.items (omega arith)
    ∙ (ap (λ r. r >>= payloads (suc at + 2) (drop (at + 1 + 1) segs)) c.in_ok-take_pair.ensures
    ∙ ap₂ (λ n d. payloads n (drop d segs) c.take_pair.new.elements.items) number place))

pub returns-in_err-take_pair : goal.returns-in_err-take_pair
returns-in_err-take_pair c =
    let segs = c.args.parts.now.segments in
    let l = c.loop-pair in
    let at = 2 * l.pair + 1 in
    let fault = c.in_err-take_pair.field-0.0 in
    let failed : c.from_residual.result ≡ Err fault = grind arith in
    let meant = payloads 2 (drop 1 segs) c.args.elements.items in
    subst (λ r. Reads (λ v. v.items) r meant) (sym failed)
    (fails_on fault (with_bytes (suc at) (segment_of segs at) (drop (at + 1) segs) l.elements.items) meant
    (λ e. l.invariant
    ∙ (pair_step segs at l.elements.items (omega arith)
    ∙ ap (λ r. r >>= payloads (suc at + 2) (drop (at + 1 + 1) segs)) e)) c.in_err-take_pair.ensures)
