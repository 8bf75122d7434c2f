use Rattle.std.proofs.Common.{◌≡◌, ℕ, Bor, ◌+◌, List, [], ◌∷◌, ◌++◌, Err, drop, sym, ◌∙◌, arith}
use Rattle.std.specs.List.{flat_map}
use Rattle.doip_json.specs.Meaning.{value_of}
use Rattle.record_core.specs.Body.{payload}
use Rattle.record_core.proofs.Listed.{next_listed, bytes_next, items_fail}
use Rattle.record_core.proofs.elements.listed_with_bytes.Goals as goal

pub returns-in_err-element-clause-found : goal.returns-in_err-element-clause-found
returns-in_err-element-clause-found c = λ es listed.
    let fault = c.in_err-element.field-0.0 in
    let failed : c.from_residual.result ≡ Err fault = grind arith in
    let next = next_listed c.args.items.now c.args.payloads.now es c.elements.i (value_of c.item.result.now) c.elements.rest.now listed c.item.ensures (c.elements.invariant.found es listed).1 in
    items_fail (λ (r : Bor (List ℕ)). r.now) _ fault c.from_residual.result next.e (flat_map payload (drop (c.elements.i + 1) es)) es (c.in_err-element.ensures.found next.e _ next.name next.size next.is next.bytes) failed

pub elements-preserved : goal.elements-preserved
elements-preserved c = record {
  bytes = bytes_next c.args.payloads.now c.elements.rest.now c.in_ok-element.after.now c.elements.made.items c.push.new.made.items c.in_ok-element.element c.elements.invariant.bytes c.in_ok-element.ensures.bytes c.in_ok-push.ensures;
  found = λ es listed.
      let before = c.elements.invariant.found es listed in
      let next = next_listed c.args.items.now c.args.payloads.now es c.elements.i (value_of c.item.result.now) c.elements.rest.now listed c.item.ensures before.1 in
      let first = c.in_ok-element.ensures.found next.e _ next.name next.size next.is next.bytes in
      (c.in_ok-push.ensures ∙ ((λ j. before.0 j ++ first.0 j ∷ []) ∙ sym next.take_is), first.1);
}
