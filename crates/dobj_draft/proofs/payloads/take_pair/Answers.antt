use Rattle.std.proofs.Common.{◌≡◌, suc, ◌+◌, drop, Ok, ap, subst, ◌∙◌, arith}
use Rattle.doip_json.specs.Meaning.{value_of}
use Rattle.doip_segment.specs.Segments.{segment_of}
use Rattle.dobj_draft.specs.Draft.{expected, bytes_in, with_bytes}
use Rattle.dobj_draft.specs.Waiting.{IsFirst}
use Rattle.dobj_draft.proofs.Pairs.{pair_taken, filled_there}
use Rattle.dobj_draft.proofs.payloads.take_pair.Goals as goal

pub returns : goal.returns
returns c =
    let segs = c.args.parts.now.segments in
    let at = c.args.at in
    let es = c.args.elements.now.items in
    let id = c.in_ok-id.id in
    let s = segment_of segs at in
    let rest = drop (at + 1) segs in
    let place =
    subst (λ xs. IsFirst id xs c.in_ok-place.place × (expected id xs ≡ Ok tt)) c.as_slice.ensures.value
    c.in_ok-place.ensures.ok in
    let one : suc at ≡ at + 1 = omega arith in
    let two : suc (at + 1) ≡ at + 1 + 1 = omega arith in
    ap (λ n. with_bytes n s rest es) one
    ∙ (pair_taken (at + 1) s rest es (value_of c.in_ok-header.header) id c.in_ok-bytes.bytes c.in_ok-header.ensures
    c.in_ok-id.ensures place.1 (ap (λ n. bytes_in n rest) two ∙ c.in_ok-bytes.ensures)
    ∙ ap Ok (filled_there id es c.fill.new.elements.items c.in_ok-place.place c.in_ok-bytes.bytes place.0
    c.fill.ensures))
