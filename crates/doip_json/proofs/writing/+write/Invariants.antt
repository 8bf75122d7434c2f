use Rattle.std.proofs.Common.{◌≡◌, ◌+◌, ◌*◌, ◌≤◌, ◌∷◌, ◌++◌, take}
use Rattle.json.specs.Token.{begin_array, begin_object}
use Rattle.doip_json.specs.Tokens.{item_tokens, entry_tokens}
use Rattle.doip_json.specs.Value.{depth_of, deepest_value, deepest_entry, values_from, entries_from}
use Rattle.doip_json.specs.Meaning.{value_of}
use Rattle.doip_json.proofs.Rooms.{items_room, entries_room}
use Rattle.doip_json.proofs.writing.+write.Given as goal

abbrev pub decreases-write : goal.decreases-write
decreases-write l = 2 * depth_of (value_of l.value.now)

abbrev pub decreases-write_list : goal.decreases-write_list
decreases-write_list l = 2 * deepest_value (values_from l.list.now) + 1

abbrev pub decreases-write_map : goal.decreases-write_map
decreases-write_map l = 2 * deepest_entry (entries_from l.map.now) + 1

abbrev pub invariant-write_list-loop-i : goal.invariant-write_list-loop-i
invariant-write_list-loop-i l = record {
  written : l.out.tokens ≡ l.fn.out.tokens ++ begin_array ∷ item_tokens (values_from (take l.i l.list));
  before : l.out.before ≡ l.fn.out.before;
  room : l.fn.out.spare ≤ l.out.spare + (items_room (take l.i l.list) + 2);
}

abbrev pub invariant-write_map-loop-i : goal.invariant-write_map-loop-i
invariant-write_map-loop-i l = record {
  written : l.out.tokens ≡ l.fn.out.tokens ++ begin_object ∷ entry_tokens (entries_from (take l.i l.map));
  before : l.out.before ≡ l.fn.out.before;
  room : l.fn.out.spare ≤ l.out.spare + (entries_room (take l.i l.map) + 2);
}
