use Rattle.std.proofs.Common.{arith, refl}
use Rattle.repo_step.proofs.NameLemmas.{passed_on, less_here, last_here, inserted_here}
use Rattle.repo_step.proofs.operations.list_operations.add_name.Goals.{then-loop-place-test+else-not-lt, else-loop-place-test}
use Rattle.repo_step.proofs.operations.list_operations.add_name.Goals as goal

pub loop-place-preserved : goal.loop-place-preserved
loop-place-preserved c =
    let vs = c.args.names.now.items in
    record {
      within = omega (arith, c.loop-place-test.true, c.len.ensures);
      before =
          passed_on c.args.name.now vs c.loop-place.place c.index.result.now (omega (arith, c.loop-place-test.true, c.len.ensures))
          c.index.ensures c.if-not-lt.ensures c.loop-place.invariant.before;
    }

pub returns : goal.returns
returns c =
    let vs = c.args.names.now.items in
    let place = c.loop-place.place in
    inserted_here c.args.name.now vs place _ c.insert.new.self.items c.in_ok-insert.ensures.items refl c.loop-place.invariant.before
    (elim c.loop-place-test.branch [
      | then-loop-place-test+else-not-lt w ↦ less_here c.args.name.now vs place w.index.result.now
          (omega (arith, w.loop-place-test.true, c.len.ensures)) w.index.ensures w.if-not-lt.ensures
      | else-loop-place-test w ↦ last_here c.args.name.now vs place (omega (arith, w.loop-place-test.false, c.len.ensures))
    ])
