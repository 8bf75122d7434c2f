use Rattle.std.proofs.Common.{◌∙◌}
use Rattle.query_text.proofs.NumeralReads.{digit_at, number_more}
use Rattle.query_text.proofs.numerals.number_of.Goals as goal

pub joined-magnitude-requires-clause-digit : goal.joined-magnitude-requires-clause-digit
joined-magnitude-requires-clause-digit c =
    digit_at c.args.digits.now c.loop-digit.digit-index c.requires c.loop-digit-test.true

pub loop-digit-preserved : goal.loop-digit-preserved
loop-digit-preserved c =
    c.joined-magnitude.ensures ∙ number_more c.args.digits.now c.loop-digit.digit-index c.loop-digit.magnitude
    18446744073709551616 c.loop-digit.invariant c.loop-digit-test.true
