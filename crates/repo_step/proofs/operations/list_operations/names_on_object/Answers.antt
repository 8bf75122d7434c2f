use Rattle.std.proofs.Common.{◌-◌, ◌≡◌, ◌+◌, arith}
use Rattle.repo_step.specs.operations.ListOperations.{object_operations}
use Rattle.repo_step.proofs.NameLemmas.{name_skipped, name_added}
use Rattle.repo_step.proofs.operations.list_operations.names_on_object.Goals as goal

pub loop-place-preserved-in-Continue-branch-2 : goal.loop-place-preserved-in-Continue-branch-2
loop-place-preserved-in-Continue-branch-2 c =
    let place = c.loop-place.place in
    let next : place ≡ (place - 1) + 1 = omega (arith, c.loop-place-test.true) in
    record {
      within = omega (arith, c.loop-place.invariant.within);
      added =
          name_added c.args.operations.now (place - 1) c.name-name.result.now c.name-name.ensures object_operations place next
          c.loop-place.names.items c.loop-place.invariant.added c.add_name.new.names.items c.if-not-is_reserved.ensures
          c.in_ok-add_name.ensures;
    }

pub loop-place-preserved : goal.loop-place-preserved
loop-place-preserved c =
    let place = c.loop-place.place in
    let next : place ≡ (place - 1) + 1 = omega (arith, c.loop-place-test.true) in
    record {
      within = omega (arith, c.loop-place.invariant.within);
      added =
          name_skipped c.args.operations.now (place - 1) c.name-name.result.now c.name-name.ensures object_operations place next
          c.loop-place.names.items c.loop-place.invariant.added c.if-not-is_reserved.ensures;
    }
