use Rattle.std.proofs.Common.{◌+◌, ◌*◌, take}
use Rattle.doip_json.specs.Value.{depth_of, deepest_value, deepest_entry, values_from, entries_from}
use Rattle.doip_json.specs.Meaning.{value_of}
use Rattle.doip_json.specs.Sound.{AreSound, EntriesAreSound}
use Rattle.doip_exchange.proofs.sound.+recall.Given as goal

abbrev pub decreases-recall : goal.decreases-recall
decreases-recall l = 2 * depth_of (value_of l.value.now)

abbrev pub decreases-recall_list : goal.decreases-recall_list
decreases-recall_list l = 2 * deepest_value (values_from l.items.now) + 1

abbrev pub decreases-recall_map : goal.decreases-recall_map
decreases-recall_map l = 2 * deepest_entry (entries_from l.entries.now) + 1

-- the items so far are sound
abbrev pub invariant-recall_list-loop-i : goal.invariant-recall_list-loop-i
invariant-recall_list-loop-i l = AreSound (values_from (take l.i l.items))

abbrev pub invariant-recall_map-loop-i : goal.invariant-recall_map-loop-i
invariant-recall_map-loop-i l = EntriesAreSound (entries_from (take l.i l.entries))
