use Rattle.std.proofs.Common.{◌≡◌, Err, arith}
use Rattle.doip_json.specs.Meaning.{value_of}
use Rattle.record_core.proofs.Listed.{listed_fails, first_element}
use Rattle.record_core.proofs.elements.element_of.Goals as goal

pub returns-in_err-listed-clause-found : goal.returns-in_err-listed-clause-found
returns-in_err-listed-clause-found c = λ e more name size same is.
    let fault = c.in_err-listed.field-0.0 in
    let failed : c.from_residual.result ≡ Err fault = grind arith in
    listed_fails _ fault c.from_residual.result (value_of c.args.value.now) e more c.in_err-listed.ensures name same failed

pub returns-clause-found : goal.returns-clause-found
returns-clause-found c = λ e more name size same is.
    first_element (value_of c.args.value.now) c.args.bytes.now c.in-Some.first.now c.in-Some.rest.now c.in_ok-bytes.bytes c.in_ok-listed.listed e more c.in_ok-listed.ensures c.in-Some.ensures.some c.in-Some.ensures.small c.in_ok-bytes.ensures name size same is
