use Rattle.std.proofs.Common.{◌+◌, ◌*◌, take}
use Rattle.doip_json.specs.Value.{depth_of, deepest_entry, entries_from}
use Rattle.doip_json.specs.Meaning.{value_of}
use Rattle.schema_core.proofs.ReadingLemmas.{AreOf}
use Rattle.schema_core.proofs.reading.+reading.Given as goal

abbrev pub decreases-stated : goal.decreases-stated
decreases-stated l = 4 * depth_of (value_of l.value.now)

abbrev pub decreases-object_stated : goal.decreases-object_stated
decreases-object_stated l = 4 * deepest_entry (entries_from l.map.now) + 3

abbrev pub decreases-properties_of : goal.decreases-properties_of
decreases-properties_of l = 4 * deepest_entry (entries_from l.map.now) + 2

abbrev pub decreases-schemas_of : goal.decreases-schemas_of
decreases-schemas_of l = 4 * depth_of (value_of l.value.now) + 1

abbrev pub decreases-each_of : goal.decreases-each_of
decreases-each_of l = 4 * deepest_entry (entries_from l.map.now) + 1

abbrev pub decreases-items_of : goal.decreases-items_of
decreases-items_of l = 4 * deepest_entry (entries_from l.map.now) + 2

abbrev pub invariant-each_of-loop-i : goal.invariant-each_of-loop-i
invariant-each_of-loop-i l = AreOf (take l.i l.map) l.keys.keys l.schemas.items
