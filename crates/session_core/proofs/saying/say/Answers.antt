use Rattle.std.proofs.Common.{◌+◌, arith, length-drop, ◌∙◌}
use Rattle.session_core.proofs.LinkLemmas.{input_kept_on}
use Rattle.session_core.proofs.Prefixes.{prefix_grows}
use Rattle.session_core.proofs.saying.say.Goals as goal

pub loop-said-preserved : goal.loop-said-preserved
loop-said-preserved g c =
    let wrote = c.in-Ok.ensures in
    record {
      within = omega (arith, wrote.bound.0, length-drop c.loop-said.said c.args.bytes.now);
      written = prefix_grows _ _ _ c.loop-said.said c.in-Ok.count c.args.bytes.now c.loop-said.invariant.written
          wrote.written;
      input = input_kept_on _ _ _ c.loop-said.invariant.input wrote.input;
      later = omega (arith, wrote.cause.later, c.loop-said.invariant.later);
      closed = wrote.closed ∙ c.loop-said.invariant.closed;
    }

pub returns-in-Err : goal.returns-in-Err
returns-in-Err g c =
    let wrote = c.in-Err.ensures in
    let prefix = wrote.written in record {
      written = (
        c.loop-said.said + prefix.0,
        omega (arith, prefix.1, length-drop c.loop-said.said c.args.bytes.now),
        prefix_grows _ _ _ c.loop-said.said prefix.0 c.args.bytes.now c.loop-said.invariant.written prefix.2,
      );
      input = input_kept_on _ _ _ c.loop-said.invariant.input wrote.input;
      closed = wrote.closed ∙ c.loop-said.invariant.closed;
      cause = record {
        later = omega (arith, wrote.cause.later, c.loop-said.invariant.later);
        failed = omega (arith, wrote.cause.failed, c.loop-said.invariant.later);
      };
    }
