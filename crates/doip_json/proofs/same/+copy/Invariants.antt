use Rattle.std.proofs.Common.{◌≡◌, ◌+◌, ◌*◌, take}
use Rattle.doip_json.specs.Value.{depth_of, deepest_value, deepest_entry, values_from, entries_from}
use Rattle.doip_json.specs.Meaning.{value_of}
use Rattle.doip_json.proofs.same.+copy.Given as goal

abbrev pub decreases-copy : goal.decreases-copy
decreases-copy l = 2 * depth_of (value_of l.value.now)

abbrev pub decreases-copy_list : goal.decreases-copy_list
decreases-copy_list l = 2 * deepest_value (values_from l.list.now) + 1

abbrev pub decreases-copy_map : goal.decreases-copy_map
decreases-copy_map l = 2 * deepest_entry (entries_from l.map.now) + 1

abbrev pub invariant-copy_list-loop-i : goal.invariant-copy_list-loop-i
invariant-copy_list-loop-i l = l.made ≡ take l.i l.list

abbrev pub invariant-copy_map-loop-i : goal.invariant-copy_map-loop-i
invariant-copy_map-loop-i l = l.made ≡ take l.i l.map
