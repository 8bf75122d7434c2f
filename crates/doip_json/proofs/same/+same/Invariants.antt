use Rattle.std.proofs.Common.{◌≡◌, ℕ, ◌+◌, ◌*◌, ◌<◌}
use Rattle.std.specs.List.{slice_get}
use Rattle.doip_json.specs.Value.{depth_of, deepest_value, deepest_entry, values_from, entries_from}
use Rattle.doip_json.specs.Meaning.{value_of}
use Rattle.doip_json.proofs.same.+same.Given as goal

abbrev pub decreases-is_same : goal.decreases-is_same
decreases-is_same l = 2 * depth_of (value_of l.a.now)

abbrev pub decreases-are_same : goal.decreases-are_same
decreases-are_same l = 2 * deepest_value (values_from l.a.now) + 1

abbrev pub decreases-is_same_map : goal.decreases-is_same_map
decreases-is_same_map l = 2 * deepest_entry (entries_from l.a.now) + 1

abbrev pub invariant-are_same-loop-i : goal.invariant-are_same-loop-i
invariant-are_same-loop-i l = (j : ℕ) → j < l.i → slice_get l.a j ≡ slice_get l.b j

abbrev pub invariant-is_same_map-loop-i : goal.invariant-is_same_map-loop-i
invariant-is_same_map-loop-i l = (j : ℕ) → j < l.i → slice_get l.a j ≡ slice_get l.b j
