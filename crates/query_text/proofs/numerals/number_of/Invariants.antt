use Rattle.std.proofs.Common.{◌≡◌, take, min}
use Rattle.query_text.specs.Spelling.{number_after}
use Rattle.query_text.proofs.numerals.number_of.Given as goal

abbrev pub invariant-loop-digit : goal.invariant-loop-digit
invariant-loop-digit l = l.magnitude ≡ min (number_after 0 (take l.digit-index l.digits)) 18446744073709551616
