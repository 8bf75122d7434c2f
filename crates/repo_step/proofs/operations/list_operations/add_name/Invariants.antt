use Rattle.std.proofs.Common.{◌≡◌, ◌≤◌, ◌-◌, ◌++◌, length, map, take, drop}
use Rattle.repo_step.specs.operations.ListOperations.{with_name}
use Rattle.repo_step.proofs.operations.list_operations.add_name.Given as goal

-- the names before this place come before the new one
abbrev pub invariant-loop-place : goal.invariant-loop-place
invariant-loop-place l = record {
  within : l.place ≤ length l.names.items;
  before : with_name l.name (map (λ n. n.now) l.names.items)
      ≡ take l.place (map (λ n. n.now) l.names.items) ++ with_name l.name (drop l.place (map (λ n. n.now) l.names.items));
}

abbrev pub decreases-loop-place : goal.decreases-loop-place
decreases-loop-place l = length l.names.items - l.place
