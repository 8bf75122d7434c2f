use Rattle.std.proofs.Common.{◌≡◌, ◌<◌, length, drop, Err, ap, ◌∙◌, arith}
use Rattle.dobj_field.proofs.PointerLemmas.{rest_is}
use Rattle.query_text.specs.declared.parts.Stop.TheVariants.{Comma}
use Rattle.query_core.specs.declared.sorting.OrderFault.TheVariants.{Refused}
use Rattle.query_text.specs.Parts.{untaken}
use Rattle.query_text.proofs.CutLemmas.{utf8_before_stop}
use Rattle.query_core.proofs.SortingLemmas.{sorting_next, sorting_refused}
use Rattle.query_core.proofs.sorting.order_of.Goals as goal

pub key_of-requires : goal.key_of-requires
key_of-requires c =
    let text = c.as_bytes-bytes.result.now in
    let body = rest_is text c.parts.at in
    let n : c.untaken-len.result ≡ untaken Comma (drop c.parts.at text) = c.untaken-len.ensures.value
    ∙ ap (untaken Comma) body in
    rw (body, n) (utf8_before_stop Comma (drop c.parts.at text) c.parts.invariant.utf8)

pub returns-in-Err-clause-refused : goal.returns-in-Err-clause-refused
returns-in-Err-clause-refused c is keys named =
    let text = c.as_bytes-bytes.result.now in
    let body = rest_is text c.parts.at in
    let n : c.untaken-len.result ≡ untaken Comma (drop c.parts.at text) = c.untaken-len.ensures.value
    ∙ ap (untaken Comma) body in
    let same : c.in-Err.fault ≡ Refused = cc in
    let some : 0 < length text = grind arith in
    sorting_refused text c.parts.at c.parts.keys.items c.untaken-len.result some c.parts.invariant n
    (rw body at (c.in-Err.ensures.refused (ap Err same))) keys (rw c.as_bytes-bytes.ensures.value named)

pub parts-preserved : goal.parts-preserved
parts-preserved c =
    let text = c.as_bytes-bytes.result.now in
    let body = rest_is text c.parts.at in
    let n : c.untaken-len.result ≡ untaken Comma (drop c.parts.at text) = c.untaken-len.ensures.value
    ∙ ap (untaken Comma) body in
    let inside : c.untaken-len.result < length (drop c.parts.at text) =
    omega (arith, c.untaken-len.ensures.within, c.if-len-rest.false, ap length body) in
    rw (c.in_ok-push-in-Ok.ensures.items)
    (sorting_next text c.parts.at c.parts.keys.items c.in-Ok.key c.untaken-len.result c.parts.invariant n inside
    (rw body at (c.in-Ok.ensures.key)))
