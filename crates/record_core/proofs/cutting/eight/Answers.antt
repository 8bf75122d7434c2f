use Rattle.std.proofs.Common.{arith}
use Rattle.record_core.proofs.Numbers.{cut_eight}
use Rattle.record_core.proofs.cutting.eight.Goals as goal

pub returns-clause-some : goal.returns-clause-some
returns-clause-some c =
    let cases = c.in_ok-field.ensures.cases in
    cut_eight c.args.bytes.now c.in_ok-field.field.now c.in_ok-field.rest.now c.from_be_bytes.result (λ i. omega (arith, c.type_inv.bytes i)) cases.0 cases.1 cases.2 c.from_be_bytes.ensures
