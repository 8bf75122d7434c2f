use Rattle.std.proofs.Common.{◌≡◌, ◌+◌, ◌*◌, ◌-◌, ◌^◌, min, take}
use Rattle.doip_json.specs.Value.{depth_of, deepest_value, deepest_entry, values_from, entries_from}
use Rattle.doip_json.specs.Meaning.{value_of}
use Rattle.doip_json.specs.Sound.{AreSound, EntriesAreSound}
use Rattle.dobj_model.specs.Lengths.{items_total, entries_total}
use Rattle.dobj_model.proofs.length.+length.Given as goal

abbrev pub decreases-value_length : goal.decreases-value_length
decreases-value_length l = 3 * depth_of (value_of l.value.now)

abbrev pub decreases-list_length : goal.decreases-list_length
decreases-list_length l = 3 * deepest_value (values_from l.items.now) + 1

abbrev pub decreases-map_length : goal.decreases-map_length
decreases-map_length l = 3 * deepest_entry (entries_from l.map.now) + 2

abbrev pub decreases-entries_length : goal.decreases-entries_length
decreases-entries_length l = 3 * deepest_entry (entries_from l.map.now) + 1

abbrev pub invariant-list_length-loop-i : goal.invariant-list_length-loop-i
invariant-list_length-loop-i l =
    (l.total ≡ min (items_total (take l.i l.items)) (2 ^ 64 - 1)) × AreSound (values_from (take l.i l.items))

abbrev pub invariant-entries_length-loop-i : goal.invariant-entries_length-loop-i
invariant-entries_length-loop-i l =
    (l.total ≡ min (entries_total (take l.i l.map)) (2 ^ 64 - 1)) × EntriesAreSound (entries_from (take l.i l.map))
