use Rattle.std.proofs.Common.{◌+◌, arith, length-drop}
use Rattle.session_core.proofs.Prefixes.{prefix_grows}
use Rattle.repo_top.proofs.printing.print.Goals as goal

pub loop-printed-preserved : goal.loop-printed-preserved
loop-printed-preserved g c =
    let wrote = c.in-Ok.ensures in
    record {
      within = omega (arith, wrote.bound.0, length-drop c.loop-printed.printed c.args.text.now);
      written = prefix_grows _ _ _ c.loop-printed.printed c.in-Ok.count c.args.text.now
          c.loop-printed.invariant.written wrote.written;
      later = omega (arith, wrote.cause.later, c.loop-printed.invariant.later);
    }

pub returns-in-Err-clause-part : goal.returns-in-Err-clause-part
returns-in-Err-clause-part g c =
    let wrote = c.in-Err.ensures in
    let prefix = wrote.written in record {
      count = c.loop-printed.printed + prefix.0;
      within = omega (arith, prefix.1, length-drop c.loop-printed.printed c.args.text.now);
      written = prefix_grows _ _ _ c.loop-printed.printed prefix.0 c.args.text.now
          c.loop-printed.invariant.written prefix.2;
      later = omega (arith, wrote.cause.later, c.loop-printed.invariant.later);
      rose = omega (arith, wrote.cause.failed, c.loop-printed.invariant.later);
    }
