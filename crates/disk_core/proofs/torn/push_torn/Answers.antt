use Rattle.std.proofs.Common.{length, sym, subst, arith}
use Rattle.std.specs.List.{Contains}
use Rattle.disk_core.specs.Disk.{written}
use Rattle.disk_core.specs.Torn.{IsTornOf}
use Rattle.disk_core.proofs.TornLemmas.{held, torn_part, joins, one, added_to, on_ok}
use Rattle.disk_core.proofs.torn.push_torn.Goals as goal

pub returns : goal.returns
returns c = on_ok c.push_part.result (λ pushed all.
    let place = c.args.place in
    let n = length c.args.piece.now in
    let before = c.args.before.now in
    let old = c.get-old.result.now in
    let P = IsTornOf before place n in
    let has : Contains before old = subst (Contains before) (sym c.get-old.ensures) (held before c.args.index c.item.result.now c.requires c.item.ensures) in
    let first = added_to before c.args.images.now c.push_others.new.images old place n has c.in_ok-push_others.ensures all in
    joins P _ _ _ pushed first (one P (written place c.args.piece.now old) (torn_part before old c.args.piece.now place n has (omega arith)))) c.push_part.ensures
