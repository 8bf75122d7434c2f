use Rattle.std.proofs.Common.{◌≡◌, ◌+◌, ◌*◌, drop}
use Rattle.doip_json.specs.Value.{depth_of, deepest_entry, entries_from}
use Rattle.doip_json.specs.Meaning.{value_of}
use Rattle.schema_core.specs.Reading.{first_fault, schemas_fault}
use Rattle.schema_core.proofs.checking.+checking.Given as goal

abbrev pub decreases-check : goal.decreases-check
decreases-check l = 4 * depth_of (value_of l.value.now)

abbrev pub decreases-check_keys : goal.decreases-check_keys
decreases-check_keys l = 4 * deepest_entry (entries_from l.map.now) + 3

abbrev pub decreases-check_key : goal.decreases-check_key
decreases-check_key l = 4 * depth_of (value_of l.value.now) + 2

abbrev pub decreases-check_properties : goal.decreases-check_properties
decreases-check_properties l = 4 * depth_of (value_of l.value.now) + 1

abbrev pub decreases-check_schemas : goal.decreases-check_schemas
decreases-check_schemas l = 4 * deepest_entry (entries_from l.map.now) + 1

abbrev pub invariant-check_keys-loop-i : goal.invariant-check_keys-loop-i
invariant-check_keys-loop-i l = first_fault (entries_from l.map) ≡ first_fault (entries_from (drop l.i l.map))

abbrev pub invariant-check_schemas-loop-i : goal.invariant-check_schemas-loop-i
invariant-check_schemas-loop-i l = schemas_fault (entries_from l.map) ≡ schemas_fault (entries_from (drop l.i l.map))
