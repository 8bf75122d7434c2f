use Rattle.std.proofs.Common.{◌+◌, ◌*◌}
use Rattle.doip_json.specs.Value.{list, table, depth_of, deepest_value, deepest_entry, values_from, entries_from}
use Rattle.doip_json.specs.Meaning.{value_of}
use Rattle.schema_core.proofs.FirstLemmas.{NoneBefore}
use Rattle.schema_core.proofs.pointer.+failing.Given as goal

abbrev pub decreases-failing : goal.decreases-failing
decreases-failing l = 2 * depth_of (value_of l.value.now)

abbrev pub decreases-failing_entry : goal.decreases-failing_entry
decreases-failing_entry l = 2 * deepest_entry (entries_from l.map.now) + 1

abbrev pub decreases-failing_item : goal.decreases-failing_item
decreases-failing_item l = 2 * deepest_value (values_from l.items.now) + 1

abbrev pub invariant-failing_entry-loop-i : goal.invariant-failing_entry-loop-i
invariant-failing_entry-loop-i l = NoneBefore l.schema (table (entries_from l.map)) l.i

abbrev pub invariant-failing_item-loop-i : goal.invariant-failing_item-loop-i
invariant-failing_item-loop-i l = NoneBefore l.schema (list (values_from l.items)) l.i
