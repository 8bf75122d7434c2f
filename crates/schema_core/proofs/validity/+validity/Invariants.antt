use Rattle.std.proofs.Common.{◌+◌, ◌*◌}
use Rattle.doip_json.specs.Value.{list, table, depth_of, deepest_value, deepest_entry, values_from, entries_from}
use Rattle.doip_json.specs.Meaning.{value_of}
use Rattle.schema_core.proofs.FirstLemmas.{NoneBefore}
use Rattle.schema_core.proofs.validity.+validity.Given as goal

abbrev pub decreases-valid : goal.decreases-valid
decreases-valid l = 2 * depth_of (value_of l.value.now)

abbrev pub decreases-first_in_object : goal.decreases-first_in_object
decreases-first_in_object l = 2 * deepest_entry (entries_from l.map.now) + 1

abbrev pub decreases-first_in_array : goal.decreases-first_in_array
decreases-first_in_array l = 2 * deepest_value (values_from l.items.now) + 1

abbrev pub invariant-first_in_object-loop-i : goal.invariant-first_in_object-loop-i
invariant-first_in_object-loop-i l = NoneBefore l.schema (table (entries_from l.map)) l.i

abbrev pub invariant-first_in_array-loop-i : goal.invariant-first_in_array-loop-i
invariant-first_in_array-loop-i l = NoneBefore l.schema (list (values_from l.items)) l.i
