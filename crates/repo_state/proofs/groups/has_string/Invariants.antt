use Rattle.std.proofs.Common.{◌≡◌, drop}
use Rattle.std.specs.List.{list_any}
use Rattle.repo_state.specs.Groups.{is_string}
use Rattle.repo_state.proofs.groups.has_string.Given as goal

-- no item so far is the string
abbrev pub invariant-loop-i : goal.invariant-loop-i
invariant-loop-i l = list_any (is_string l.word) l.items ≡ list_any (is_string l.word) (drop l.i l.items)
