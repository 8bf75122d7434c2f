use Rattle.std.proofs.Common.{◌≡◌, ◌≤◌, length, map, drop}
use Rattle.repo_step.specs.operations.ListOperations.{with_names, extended_names, object_operations}
use Rattle.repo_step.proofs.operations.list_operations.names_on_object.Given as goal

-- the names of the operations from this place on, among those of every object
abbrev pub invariant-loop-place : goal.invariant-loop-place
invariant-loop-place l = record {
  within : l.place ≤ length l.operations;
  added : map (λ n. n.now) l.names.items ≡ with_names (extended_names (drop l.place l.operations)) object_operations;
}

abbrev pub decreases-loop-place : goal.decreases-loop-place
decreases-loop-place l = l.place
