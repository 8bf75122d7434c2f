use Rattle.std.proofs.Common.{rules}
use Rattle.ext_ops.proofs.WhiteLemmas.{leads_start, leads_on}
use Rattle.ext_ops.proofs.white.without_leading.Goals as goal

pub loop-start-init : goal.loop-start-init
loop-start-init c = leads_start c.args.text.now c.utf8.text

pub loop-start-preserved : goal.loop-start-preserved
loop-start-preserved c =
    leads_on c.args.text.now c.loop-start.start c.utf8.text (search rules) (search rules) c.loop-start.invariant
