use Rattle.std.proofs.Common.{◌≡◌, map}
use Rattle.doip_json.specs.Value.{text}
use Rattle.repo_step.proofs.operations.list_operations.names_value.Given as goal

-- the names so far, as strings
abbrev pub invariant-loop-name : goal.invariant-loop-name
invariant-loop-name l = l.list ≡ map text (map (λ n. n.now) l.yielded)
