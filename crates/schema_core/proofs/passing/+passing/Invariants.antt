use Rattle.std.proofs.Common.{◌≡◌, ◌+◌, ◌*◌, ℕ, List, drop}
use Rattle.doip_json.specs.Value.{depth_of, deepest_value, deepest_entry, values_from, entries_from}
use Rattle.doip_json.specs.Meaning.{value_of}
use Rattle.schema_core.specs.References.{entry_references, item_references, all_pass}
use Rattle.schema_core.proofs.passing.+passing.Given as goal

abbrev pub decreases-holds_in : goal.decreases-holds_in
decreases-holds_in g l = 3 * depth_of (value_of l.value.now)

abbrev pub decreases-holds_under : goal.decreases-holds_under
decreases-holds_under g l = 3 * depth_of (value_of l.value.now) + 1

abbrev pub decreases-holds_in_object : goal.decreases-holds_in_object
decreases-holds_in_object g l = 3 * deepest_entry (entries_from l.map.now) + 2

abbrev pub decreases-holds_in_array : goal.decreases-holds_in_array
decreases-holds_in_array g l = 3 * deepest_value (values_from l.items.now) + 2

-- the test holds so far
abbrev pub invariant-holds_in_object-loop-i : goal.invariant-holds_in_object-loop-i
invariant-holds_in_object-loop-i g l =
    (names : List (List ℕ))
    → all_pass (g.T.ReferenceTest.holds_of l.test) (entry_references names l.schema (entries_from l.map))
    ≡ all_pass (g.T.ReferenceTest.holds_of l.test) (entry_references names l.schema (entries_from (drop l.i l.map)))

abbrev pub invariant-holds_in_array-loop-i : goal.invariant-holds_in_array-loop-i
invariant-holds_in_array-loop-i g l =
    (names : List (List ℕ))
    → all_pass (g.T.ReferenceTest.holds_of l.test) (item_references names l.schema 0 (values_from l.items))
    ≡ all_pass (g.T.ReferenceTest.holds_of l.test) (item_references names l.schema l.i (values_from (drop l.i l.items)))
