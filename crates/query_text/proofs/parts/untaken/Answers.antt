use Rattle.std.proofs.Common.{arith}
use Rattle.query_text.proofs.PartLemmas.{at_lone, at_taken, at_stop, at_byte, at_end}
use Rattle.query_text.proofs.parts.untaken.Goals as goal

pub returns-then-at-bytes-clause-value : goal.returns-then-at-bytes-clause-value
returns-then-at-bytes-clause-value c =
    omega (
      arith,
      c.loop-at.invariant.value,
      at_lone c.args.stop c.args.bytes.now c.loop-at.at c.if-at-bytes.true
          c.if-bytes-at-eq92.true,
    )

pub loop-at-preserved-then-bytes-at-eq92 : goal.loop-at-preserved-then-bytes-at-eq92
loop-at-preserved-then-bytes-at-eq92 c = record {
  within = omega arith;
  value = omega (
    arith,
    c.loop-at.invariant.value,
    at_taken c.args.stop c.args.bytes.now c.loop-at.at
        (omega arith) c.if-bytes-at-eq92.true,
  );
}

pub returns-then-stops-clause-value : goal.returns-then-stops-clause-value
returns-then-stops-clause-value c =
    omega (
      arith,
      c.loop-at.invariant.value,
      at_stop c.args.stop c.args.bytes.now c.loop-at.at c.loop-at-test.true
          c.if-bytes-at-eq92.false (grind arith),
    )

pub loop-at-preserved : goal.loop-at-preserved
loop-at-preserved c = record {
  within = omega arith;
  value = omega (
    arith,
    c.loop-at.invariant.value,
    at_byte c.args.stop c.args.bytes.now c.loop-at.at
        c.loop-at-test.true c.if-bytes-at-eq92.false (grind arith),
  );
}

pub returns-clause-value : goal.returns-clause-value
returns-clause-value c = omega (
  arith,
  c.loop-at.invariant.value,
  at_end c.args.stop c.args.bytes.now c.loop-at.at
      c.loop-at-test.false,
)
