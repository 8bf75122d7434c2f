use Rattle.std.proofs.Common.{◌≡◌, take, flat_map, length, ap, arith}
use Rattle.std.proofs.lemmas.List.{take_all}
use Rattle.doip_json.specs.Text.{escaped}
use Rattle.doip_json.proofs.Rooms.{byte_next}
use Rattle.dobj_model.proofs.Totals.{string_total}
use Rattle.dobj_model.proofs.length.string_length.Goals as goal

pub loop-byte-preserved : goal.loop-byte-preserved
loop-byte-preserved c =
    let l = c.loop-byte in
    let more = byte_next c.as_bytes-byte-items.result.now l.byte-index c.loop-byte-test.true in
    omega (arith, more, l.invariant, c.saturating_add-total.ensures, c.escape_length.ensures)

pub returns : goal.returns
returns c =
    let l = c.loop-byte in
    let s = c.as_bytes-byte-items.result.now in
    let all : length (flat_map escaped (take l.byte-index s)) ≡ length (flat_map escaped s) =
    ap (λ bs. length (flat_map escaped bs)) (take_all l.byte-index s c.loop-byte-test.false) in
    let same : length (flat_map escaped s) ≡ length (flat_map escaped c.args.text.now) =
    ap (λ bs. length (flat_map escaped bs)) c.as_bytes-byte-items.ensures.value in
    omega (arith, all, same, l.invariant, string_total c.args.text.now)
