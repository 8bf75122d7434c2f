use Rattle.std.proofs.Common.{arith, ◌≡◌, sym}
use Rattle.dobj_field.proofs.WordLemmas.{type_breaks, id_breaks, empty_breaks}
use Rattle.dobj_field.proofs.field.field_of.Goals as goal

pub returns-then-is_empty-clause-place : goal.returns-then-is_empty-clause-place
returns-then-is_empty-clause-place c place is =
    let same : 0 ≡ place = cc in
    rw (sym same, sym c.as_bytes-bytes.ensures.value) (empty_breaks c.as_bytes-bytes.result.now (grind arith))

pub returns-then-bytes-eq116-clause-place : goal.returns-then-bytes-eq116-clause-place
returns-then-bytes-eq116-clause-place c place is =
    let n = c.common_len-same.result in
    let same : n ≡ place = cc in
    let e = c.common_len-same.ensures in
    rw (sym same, sym c.as_bytes-bytes.ensures.value)
    (type_breaks c.as_bytes-bytes.result.now n (grind arith) c.if-bytes-eq116.true e.text e.word e.same e.other
    (λ a b. grind (arith, c.else-same-eq4.either)))

pub returns-clause-place : goal.returns-clause-place
returns-clause-place c place is =
    let n = c.common_len-same-2.result in
    let same : n ≡ place = cc in
    let e = c.common_len-same-2.ensures in
    rw (sym same, sym c.as_bytes-bytes.ensures.value)
    (id_breaks c.as_bytes-bytes.result.now n
    (grind arith) c.if-bytes-eq47.false c.if-bytes-eq116.false e.text e.word e.same e.other
    (λ a b. grind (arith, c.else-same-eq2.either)))
