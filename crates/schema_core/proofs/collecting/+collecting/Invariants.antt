use Rattle.std.proofs.Common.{◌≡◌, ◌+◌, ◌*◌, ◌++◌, drop}
use Rattle.doip_json.specs.Value.{depth_of, deepest_value, deepest_entry, values_from, entries_from}
use Rattle.doip_json.specs.Meaning.{value_of}
use Rattle.schema_core.specs.References.{entry_references, item_references}
use Rattle.schema_core.proofs.collecting.+collecting.Given as goal

abbrev pub decreases-collect : goal.decreases-collect
decreases-collect l = 3 * depth_of (value_of l.value.now)

abbrev pub decreases-collect_under : goal.decreases-collect_under
decreases-collect_under l = 3 * depth_of (value_of l.value.now) + 1

abbrev pub decreases-collect_entries : goal.decreases-collect_entries
decreases-collect_entries l = 3 * deepest_entry (entries_from l.map.now) + 2

abbrev pub decreases-collect_items : goal.decreases-collect_items
decreases-collect_items l = 3 * deepest_value (values_from l.items.now) + 2

abbrev pub invariant-collect_entries-loop-i : goal.invariant-collect_entries-loop-i
invariant-collect_entries-loop-i l = record {
  names : l.names.items ≡ l.initial.names.items;
  found :
      l.found ++ entry_references l.names.items l.schema (entries_from (drop l.i l.map))
      ≡ l.initial.found ++ entry_references l.initial.names.items l.schema (entries_from l.map);
}

abbrev pub invariant-collect_items-loop-i : goal.invariant-collect_items-loop-i
invariant-collect_items-loop-i l = record {
  names : l.names.items ≡ l.initial.names.items;
  found :
      l.found ++ item_references l.names.items l.schema l.i (values_from (drop l.i l.items))
      ≡ l.initial.found ++ item_references l.initial.names.items l.schema 0 (values_from l.items);
}
