use Rattle.std.proofs.Common.{length, ap, arith}
use Rattle.dobj_field.proofs.PointerLemmas.{rest_is}
use Rattle.query_text.proofs.NumeralReads.{white_end_is}
use Rattle.query_text.proofs.range.white_end.Goals as goal

pub returns : goal.returns
returns c =
    let text = c.args.bytes.now in
    let at = c.args.at in
    let body = rest_is text at in
    white_end_is text at c.white_len.result (omega (arith, c.white_len.ensures.within, ap length body)) c.requires
    (rw body at (c.white_len.ensures.rest))
