use Rattle.std.proofs.Common.{◌+◌, ◌*◌, ◌≤◌, take}
use Rattle.doip_json.specs.Value.{deepest_value, deepest_entry, values_from, entries_from}
use Rattle.dobj_model.proofs.depth.+nests.Given as goal

abbrev pub decreases-nests_within : goal.decreases-nests_within
decreases-nests_within l = 2 * l.depth

abbrev pub decreases-items_within : goal.decreases-items_within
decreases-items_within l = 2 * l.depth + 1

abbrev pub decreases-entries_within : goal.decreases-entries_within
decreases-entries_within l = 2 * l.depth + 1

abbrev pub invariant-items_within-loop-i : goal.invariant-items_within-loop-i
invariant-items_within-loop-i l = deepest_value (values_from (take l.i l.list)) ≤ l.depth

abbrev pub invariant-entries_within-loop-i : goal.invariant-entries_within-loop-i
invariant-entries_within-loop-i l = deepest_entry (entries_from (take l.i l.map)) ≤ l.depth
