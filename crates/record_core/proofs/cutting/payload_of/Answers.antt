use Rattle.std.proofs.Common.{◌<◌, length}
use Rattle.record_core.proofs.Heads.{short_payload, short_bytes}
use Rattle.record_core.proofs.Results.{if_none, none_weaker}
use Rattle.record_core.proofs.cutting.payload_of.Goals as goal

pub returns-in_err-size-clause-none : goal.returns-in_err-size-clause-none
returns-in_err-size-clause-none c = if_none c.from_residual.result _ (λ first more small is. short_payload c.args.bytes.now first more c.in_err-size.ensures.none is)

pub returns-clause-none : goal.returns-clause-none
returns-clause-none c =
    let rest = c.in_ok-size.rest.now in
    none_weaker c.piece.result (length rest < c.in_ok-size.size) _ c.piece.ensures.none
    (λ short first more small is. short_bytes c.args.bytes.now rest c.in_ok-size.size first more c.in_ok-size.ensures.small small c.in_ok-size.ensures.some short is)
