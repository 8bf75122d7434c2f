use Rattle.std.proofs.Common.{◌≡◌, ◌+◌, ◌≤◌, length, drop, Err, sym, ap, ◌∙◌, subst, arith, length-drop}
use Rattle.dobj_field.proofs.PointerLemmas.{rest_is}
use Rattle.query_text.specs.Spelling.{AQuery}
use Rattle.query_text.specs.Faults.{IsFault}
use Rattle.query_text.specs.Reading.{Rest}
use Rattle.query_text.proofs.TestLemmas.{there_fits}
use Rattle.query_text.proofs.ReadLemmas.{read_start, read_token, read_fault, read_short, read_whole}
use Rattle.query_text.proofs.reading.query_of.Goals as goal

pub loop-at-init : goal.loop-at-init
loop-at-init c =
    rw (c.start-nesting.ensures, c.new-tokens.ensures.items)
    (read_start c.as_bytes-bytes.result.now c.white_end-at.result c.as_bytes-bytes.ensures.utf8
    c.white_end-at.ensures)

pub loop-at-preserved : goal.loop-at-preserved
loop-at-preserved c =
    let text = c.as_bytes-bytes.result.now in
    let l = c.loop-at in
    let read = rw (rest_is text l.at) at (c.in-Ok.ensures.token) in
    rw c.in_ok-push-in-Ok.ensures.items
    (read_token text l.at l.nesting c.enter.new.self l.tokens.items c.in-Ok.token c.in-Ok.len
    c.white_end-at-in-Ok.result l.invariant read
    c.in_ok-enter-in-Ok.ensures c.white_end-at-in-Ok.ensures)

pub overflow_add-result : goal.overflow_add-result
overflow_add-result c =
    let text = c.as_bytes-bytes.result.now in
    let l = c.loop-at in
    let fault = rw (rest_is text l.at) at
    (c.in-Err-At.ensures.place c.in-Err-At.place (ap Err c.in-Err-At.field-0-is)) in
    let fits = there_fits (Rest l.nesting) (drop l.at text) c.in-Err-At.place fault in
    let inside : l.at ≤ length text = l.invariant.fits in
    omega (arith, fits, length-drop l.at text, inside)

pub returns-in-Err-At-clause-place : goal.returns-in-Err-At-clause-place
returns-in-Err-At-clause-place c place is =
    let text = c.as_bytes-bytes.result.now in
    let l = c.loop-at in
    let fault = rw (rest_is text l.at) at
    (c.in-Err-At.ensures.place c.in-Err-At.place (ap Err c.in-Err-At.field-0-is)) in
    let same : l.at + c.in-Err-At.place ≡ place = cc in
    subst (λ t. IsFault AQuery t place) c.as_bytes-bytes.ensures.value
    (subst (IsFault AQuery text) same
    (read_fault text l.at c.in-Err-At.place l.nesting l.tokens.items l.invariant c.loop-at-test.true fault))

pub returns-then-not-is_done-clause-place : goal.returns-then-not-is_done-clause-place
returns-then-not-is_done-clause-place c place is =
    let text = c.as_bytes-bytes.result.now in
    let l = c.loop-at in
    let same : l.at ≡ place = cc in
    subst (λ t. IsFault AQuery t place) c.as_bytes-bytes.ensures.value
    (subst (IsFault AQuery text) same
    (read_short text l.at l.nesting l.tokens.items l.invariant (omega arith)
    (sym c.is_done.ensures ∙ c.if-not-is_done.true)))

pub of-requires : goal.of-requires
of-requires c =
    let l = c.loop-at in
    (read_whole c.as_bytes-bytes.result.now l.at l.nesting l.tokens.items l.invariant (omega arith)
    (sym c.is_done.ensures ∙ c.if-not-is_done.false)).1

pub returns-clause-query : goal.returns-clause-query
returns-clause-query c =
    let l = c.loop-at in
    let whole = read_whole c.as_bytes-bytes.result.now l.at l.nesting l.tokens.items l.invariant (omega arith)
    (sym c.is_done.ensures ∙ c.if-not-is_done.false) in
    rw (sym c.as_bytes-bytes.ensures.value, c.of.ensures) whole
