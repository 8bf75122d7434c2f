use Rattle.std.proofs.Common.{◌≡◌, ◌+◌, ◌<◌, length, take, drop, Err, sym, ap, subst, arith, IsUtf8, length-drop}
use Rattle.dobj_field.proofs.PointerLemmas.{rest_is}
use Rattle.query_text.specs.declared.fault.QueryFault.TheVariants.{At}
use Rattle.query_text.specs.declared.parts.Stop.TheVariants.{Colon}
use Rattle.query_text.specs.Reading.{BreaksTest}
use Rattle.query_text.proofs.CutLemmas.{utf8_before_stop}
use Rattle.query_text.proofs.TestLemmas.{test_reads, test_value_fails, test_name_fails, test_ends, colon_utf8, white_utf8, value_within}
use Rattle.query_text.proofs.tokens.test_token.Goals as goal

pub field_at-requires : goal.field_at-requires
field_at-requires c =
    let text = c.args.rest.now in subst (λ n. IsUtf8 (take n text)) (sym c.untaken-name.ensures.value)
    (utf8_before_stop Colon text c.requires)

pub returns-then-name-rest-clause-place : goal.returns-then-name-rest-clause-place
returns-then-name-rest-clause-place c place is =
    let text = c.args.rest.now in
    let n = c.untaken-name.result in
    let same : n ≡ place = cc in
    subst (BreaksTest text) same (test_ends text n c.in-Ok.field c.untaken-name.ensures.value c.if-name-rest.true
    c.in-Ok.ensures.field)

pub value_of-requires : goal.value_of-requires
value_of-requires c =
    let text = c.args.rest.now in
    let n = c.untaken-name.result in
    let start = c.white_end-start.result in
    let inside : n < length text = omega (arith, c.untaken-name.ensures.within, c.if-name-rest.false) in
    subst IsUtf8 (sym (rest_is text start))
    (white_utf8 text (n + 1) start c.white_end-start.ensures
    (colon_utf8 text n c.untaken-name.ensures.value inside c.requires))

pub returns-in-Ok-value_of-clause-token : goal.returns-in-Ok-value_of-clause-token
returns-in-Ok-value_of-clause-token c =
    let text = c.args.rest.now in
    let n = c.untaken-name.result in
    let start = c.white_end-start.result in
    let inside : n < length text = omega (arith, c.untaken-name.ensures.within, c.if-name-rest.false) in
    let body = rest_is text start in
    test_reads text n start c.in-Ok-value_of.len c.in-Ok.field c.in-Ok-value_of.test c.untaken-name.ensures.value
    inside c.in-Ok.ensures.field c.white_end-start.ensures
    (rw body at (c.in-Ok-value_of.ensures.value)) (rw body at (c.in-Ok-value_of.ensures.follows))

pub overflow_add-result-in-Err-At : goal.overflow_add-result-in-Err-At
overflow_add-result-in-Err-At c =
    let text = c.args.rest.now in
    let start = c.white_end-start.result in
    let place = c.in-Err-At.place in
    let body = rest_is text start in
    let fault = rw body at (c.in-Err-At.ensures.place place (ap Err c.in-Err-At.field-0-is)) in
    let fits = value_within (drop start text) place fault in
    omega (arith, fits, length-drop start text, c.white_end-start.ensures.fits)

pub returns-in-Err-At-clause-place : goal.returns-in-Err-At-clause-place
returns-in-Err-At-clause-place c place is =
    let text = c.args.rest.now in
    let n = c.untaken-name.result in
    let start = c.white_end-start.result in
    let inside : n < length text = omega (arith, c.untaken-name.ensures.within, c.if-name-rest.false) in
    let body = rest_is text start in
    let fault = rw body at (c.in-Err-At.ensures.place c.in-Err-At.place (ap Err c.in-Err-At.field-0-is)) in
    let same : start + c.in-Err-At.place ≡ place = cc in
    subst (BreaksTest text) same (test_value_fails text n start c.in-Err-At.place c.in-Ok.field
    c.untaken-name.ensures.value inside c.in-Ok.ensures.field c.white_end-start.ensures fault)

pub returns-clause-place : goal.returns-clause-place
returns-clause-place c place is =
    let text = c.args.rest.now in
    let n = c.untaken-name.result in
    let same : c.in-Err.fault ≡ At place = cc in
    test_name_fails text n place c.untaken-name.ensures.value c.untaken-name.ensures.within
    (c.in-Err.ensures.place place (ap Err same))
