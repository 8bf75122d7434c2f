use Rattle.std.proofs.Common.{◌≡◌, ◌+◌, ◌*◌, ◌≤◌, ◌∷◌, ◌++◌, drop, take}
use Rattle.json.specs.Token.{begin_array}
use Rattle.doip_json.specs.Tokens.{item_tokens, entry_tokens}
use Rattle.doip_json.specs.Value.{depth_of, deepest_value, deepest_entry, values_from, entries_from}
use Rattle.doip_json.specs.Meaning.{value_of}
use Rattle.dobj_model.proofs.writing.+write.Given as goal

abbrev pub decreases-write_value : goal.decreases-write_value
decreases-write_value l = 3 * depth_of (value_of l.value.now)

abbrev pub decreases-write_list : goal.decreases-write_list
decreases-write_list l = 3 * deepest_value (values_from l.list.now) + 1

abbrev pub decreases-write_map : goal.decreases-write_map
decreases-write_map l = 3 * deepest_entry (entries_from l.map.now) + 2

abbrev pub decreases-write_entries : goal.decreases-write_entries
decreases-write_entries l = 3 * deepest_entry (entries_from l.map.now) + 1

abbrev pub invariant-write_list-loop-i : goal.invariant-write_list-loop-i
invariant-write_list-loop-i l = record {
  written : l.out.tokens ≡ l.fn.out.tokens ++ begin_array ∷ item_tokens (values_from (take l.i l.list));
  before : l.out.before ≡ l.fn.out.before;
}

abbrev pub invariant-write_entries-loop-i : goal.invariant-write_entries-loop-i
invariant-write_entries-loop-i l = record {
  above : l.from ≤ l.i;
  written : l.out.tokens ≡ l.fn.out.tokens ++ entry_tokens (entries_from (drop l.from (take l.i l.map)));
  before : l.out.before ≡ l.fn.out.before;
}
