use Rattle.std.proofs.Common.{◌≡◌, Err, length, unwrap_or, sym, ap, subst, ◌∙◌, arith}
use Rattle.std.specs.List.{flat_map}
use Rattle.doip_json.specs.Text.{text_of}
use Rattle.dobj_model.specs.declared.object.ObjectValue.{ObjectValue}
use Rattle.record_core.specs.Body.{form_in, payload}
use Rattle.record_core.specs.Storable.{HasTimesOf}
use Rattle.record_core.proofs.Bodies.{not_put, head_matches, some_counter, text_short, put_fails, yields_never}
use Rattle.record_core.proofs.reading.put_of.Goals as goal

pub returns-in_default : goal.returns-in_default
returns-in_default c = not_put c.args.format c.args.content.now (λ o counter kept times minted is.
    c.in_default.ensures.none (unwrap_or counter 0) (text_of (form_in c.args.format o)) (length o.elements) (flat_map payload o.elements) (some_counter counter minted) (text_short c.args.format o kept) is)

pub returns-in_err-counter : goal.returns-in_err-counter
returns-in_err-counter c =
    let fault = c.in_err-counter.field-0.0 in
    let failed : c.from_residual.result ≡ Err fault = grind arith in
    put_fails c.args.format c.args.content.now fault c.from_residual.result failed (λ same. not_put c.args.format c.args.content.now (λ o counter kept times minted is.
    let h = c.in-Some.head in
    let parts = head_matches c.args.format o counter c.args.content.now h.counter h.text.now h.count h.payloads.now c.in-Some.ensures.some c.in-Some.ensures.small kept minted is in
    c.in_err-counter.ensures.1 counter minted (sym parts.counter)))

pub returns-in_err-object : goal.returns-in_err-object
returns-in_err-object c =
    let fault = c.in_err-object.field-0.0 in
    let failed : c.from_residual-in_err-object.result ≡ Err fault = grind arith in
    put_fails c.args.format c.args.content.now fault c.from_residual-in_err-object.result failed (λ same. not_put c.args.format c.args.content.now (λ o counter kept times minted is.
    let h = c.in-Some.head in
    let parts = head_matches c.args.format o counter c.args.content.now h.counter h.text.now h.count h.payloads.now c.in-Some.ensures.some c.in-Some.ensures.small kept minted is in
    yields_never fault o (c.in_err-object.ensures.found o kept times parts.shown parts.payloads) same))

pub returns-then-len-head : goal.returns-then-len-head
returns-then-len-head c = not_put c.args.format c.args.content.now (λ o counter kept times minted is.
    let h = c.in-Some.head in
    let parts = head_matches c.args.format o counter c.args.content.now h.counter h.text.now h.count h.payloads.now c.in-Some.ensures.some c.in-Some.ensures.small kept minted is in
    let same = c.in_ok-object.ensures.found o kept times parts.shown parts.payloads in
    let long = ap (λ (x : ObjectValue). length x.elements) same in
    let lent = ap length c.elements.ensures in
    absurd (omega (arith, long, lent, parts.count, c.if-len-head.true, c.len.ensures)))

pub returns-then-not-branch : goal.returns-then-not-branch
returns-then-not-branch c = not_put c.args.format c.args.content.now (λ o counter kept times minted is.
    let h = c.in-Some.head in
    let parts = head_matches c.args.format o counter c.args.content.now h.counter h.text.now h.count h.payloads.now c.in-Some.ensures.some c.in-Some.ensures.small kept minted is in
    let same = c.in_ok-object.ensures.found o kept times parts.shown parts.payloads in
    let times_too = subst (HasTimesOf c.args.format) (sym same) times in
    let shown = parts.shown ∙ ap (λ x. text_of (form_in c.args.format x)) (sym same) in
    let yes = c.in_ok-has_text.ensures.1 (times_too, shown) in
    let no = c.if-not-branch.true in
    absurd (cc (yes, no)))
