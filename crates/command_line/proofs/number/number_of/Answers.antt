use Rattle.std.proofs.Common.{◌≡◌, sym, ◌∙◌, arith}
use Rattle.command_line.proofs.Numbers.{begins, spelt, reads}
use Rattle.command_line.proofs.number.number_of.Goals as goal

pub returns-then-not-begins_number-clause-none : goal.returns-then-not-begins_number-clause-none
returns-then-not-begins_number-clause-none c = λ none n is low high.
    let digit = begins n c.args.text.now is (omega (arith, low, c.requires))
    (omega (arith, high, c.ranges.greatest.fits)) in
    let yes = c.begins_number.ensures.1 digit in let e = sym c.if-not-begins_number.true ∙ yes in cc

pub returns-in-Ok-clause-some : goal.returns-in-Ok-clause-some
returns-in-Ok-clause-some c = (
  spelt c.in-Ok.number c.args.text.now c.parse.result c.parse.ensures.value.0
      (c.begins_number.ensures.0 c.if-not-begins_number.false).0 c.in-Ok.is,
  c.if-least-number.true,
  c.if-number-greatest.true,
)

pub returns-in_default-clause-none : goal.returns-in_default-clause-none
returns-in_default-clause-none c = λ none n is low high.
    let e = sym c.in-Ok.is ∙ reads n c.args.text.now c.parse.result c.parse.ensures.value.0 is
    (omega (arith, high, c.ranges.greatest.fits)) in
    let same : c.in-Ok.number ≡ n = cc in omega (arith, same, high, c.if-number-greatest.false)

pub returns-in_default-2-clause-none : goal.returns-in_default-2-clause-none
returns-in_default-2-clause-none c = λ none n is low high.
    let e = sym c.in-Ok.is ∙ reads n c.args.text.now c.parse.result c.parse.ensures.value.0 is
    (omega (arith, high, c.ranges.greatest.fits)) in
    let same : c.in-Ok.number ≡ n = cc in omega (arith, same, low, c.if-least-number.false)

pub returns-in_default-3-clause-none : goal.returns-in_default-3-clause-none
returns-in_default-3-clause-none c = λ none n is low high.
    let e = sym c.in_default.is
    ∙ reads n c.args.text.now c.parse.result c.parse.ensures.value.0 is (omega (arith, high, c.ranges.greatest.fits)) in cc
