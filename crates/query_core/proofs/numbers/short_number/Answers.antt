use Rattle.std.proofs.Common.{◌<◌, ◌≤◌, length, drop, sym, ap, ◌∙◌, refl, arith}
use Rattle.dobj_field.proofs.PointerLemmas.{rest_is}
use Rattle.query_text.specs.Spelling.{number_after}
use Rattle.query_text.specs.Reading.{sign_len, signed_number}
use Rattle.query_core.proofs.NumberLemmas.{short_known, all_counted, short_reads, some_short, none_short}
use Rattle.query_core.proofs.numbers.short_number.Goals as goal

pub returns-then-not-is_short-clause-none : goal.returns-then-not-is_short-clause-none
returns-then-not-is_short-clause-none c none number said =
    let text = c.args.bytes.now in
    let m = c.is_minus-minus.result in
    let n = c.digits_len-len.result in
    let body = rest_is text c.sign_len.result ∙ ap (λ k. drop k text) c.sign_len.ensures in
    let run = rw body at (c.digits_len-len.ensures) in
    let known = short_known m text number (sym c.is_minus-minus.ensures) said in
    let counted = all_counted (drop (sign_len m) text) n run known.0 in
    let some : 0 < n = grind (arith, counted.1) in
    let far : length (drop (sign_len m) text) ≤ n = grind (arith, counted.0) in
    let few : n ≤ 18 = omega (arith, run.fits, known.1) in
    let holds = c.is_short.ensures.1 (some, few, omega (arith, ap length body, far)) in grind arith

pub returns-clause-number : goal.returns-clause-number
returns-clause-number c =
    let text = c.args.bytes.now in
    let m = c.is_minus-minus.result in
    let n = c.digits_len-len.result in
    let body = rest_is text c.sign_len.result ∙ ap (λ k. drop k text) c.sign_len.ensures in
    let run = rw body at (c.digits_len-len.ensures) in
    let short = c.is_short.ensures.0 (grind arith) in
    let v = signed_number m (number_after 0 (drop (sign_len m) text)) in
    some_short c.number_of.result v text (rw body at (c.number_of.ensures))
    (λ whole. short_reads m text n v (sym c.is_minus-minus.ensures) run short.0 short.1
    (omega (arith, ap length body, short.2)) whole refl)

pub returns-clause-none : goal.returns-clause-none
returns-clause-none c none number said =
    let text = c.args.bytes.now in
    let m = c.is_minus-minus.result in
    let body = rest_is text c.sign_len.result ∙ ap (λ k. drop k text) c.sign_len.ensures in
    let known = short_known m text number (sym c.is_minus-minus.ensures) said in
    none_short c.number_of.result (signed_number m (number_after 0 (drop (sign_len m) text)))
    (rw body at (c.number_of.ensures)) none known.2
