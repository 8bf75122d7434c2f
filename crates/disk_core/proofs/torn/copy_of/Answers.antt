use Rattle.std.proofs.Common.{sym, subst, rules}
use Rattle.std.specs.List.{Contains}
use Rattle.disk_core.proofs.TornLemmas.{held, joins, one}
use Rattle.disk_core.proofs.torn.copy_of.Goals as goal

pub rows-preserved : goal.rows-preserved
rows-preserved c =
    let before = c.args.before.now in
    let has : Contains before c.get.result.now = subst (Contains before) (sym c.get.ensures) (held before c.rows.index c.item.result.now (search rules) c.item.ensures) in
    joins (Contains before) c.rows.images _ c.push.new.self c.in_ok-push.ensures.ok c.rows.invariant (one (Contains before) _ (subst (Contains before) (sym c.in_ok-of.ensures) has))
