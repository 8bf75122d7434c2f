use Rattle.std.proofs.Common.{arith}
use Rattle.query_text.proofs.NumeralReads.{digits_more}
use Rattle.query_text.proofs.numerals.digits_len.Goals as goal

pub loop-len-preserved : goal.loop-len-preserved
loop-len-preserved c = record {
  fits = omega arith;
  all = digits_more c.args.rest.now c.loop-len.len c.loop-len.invariant.all (omega arith) (grind arith);
}
