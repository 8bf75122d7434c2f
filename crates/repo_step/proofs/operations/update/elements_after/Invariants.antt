use Rattle.std.proofs.Common.{◌≡◌, map}
use Rattle.repo_step.specs.operations.Update.{element_after}
use Rattle.repo_step.proofs.operations.update.elements_after.Given as goal

-- the elements so far, each with its bytes
abbrev pub invariant-loop-element : goal.invariant-loop-element
invariant-loop-element l = l.made.items ≡ map (element_after l.object) l.yielded
