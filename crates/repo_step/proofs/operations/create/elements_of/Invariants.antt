use Rattle.std.proofs.Common.{◌≡◌, map}
use Rattle.repo_step.specs.operations.Create.{element_of}
use Rattle.repo_step.proofs.operations.create.elements_of.Given as goal

-- the elements so far, each with its bytes
abbrev pub invariant-loop-element : goal.invariant-loop-element
invariant-loop-element l = l.made.items ≡ map element_of l.yielded
