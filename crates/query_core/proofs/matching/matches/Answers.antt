use Rattle.query_core.proofs.LevelLemmas.{query_outcome}
use Rattle.query_core.proofs.matching.matches.Goals as goal

pub loop-token-init : goal.loop-token-init
loop-token-init c meant is =
    rw (c.fresh-level.ensures, c.none-outer.ensures)
    (query_outcome c.tokens-token-items.result.now meant c.args.object.now is)
