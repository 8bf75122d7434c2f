use Rattle.std.proofs.Common.{◌≡◌, List, ◌++◌, map, option_map, string_bytes}
use Rattle.std.specs.Map.{keys_of}
use Rattle.std.specs.Vec.Iter.{into_iter_items}
use Rattle.serde_json.specs.View.{items_view, members_view}
use Rattle.serde_json.proofs.Views.{Entry}
use Rattle.doip_json.specs.Read.{values_in, entries_in}
use Rattle.doip_json.proofs.Parsed.{items_after, entries_after}
use Rattle.doip_json.proofs.reading.+convert.Given as goal

abbrev pub invariant-list_of-loop-item : goal.invariant-list_of-loop-item
invariant-list_of-loop-item l =
    values_in (items_view l.fn.items.items) ≡ option_map (items_after l.list) (values_in (items_view (into_iter_items l.item-iterator)))

abbrev pub invariant-map_of-loop-key : goal.invariant-map_of-loop-key
invariant-map_of-loop-key l =
    (done : List Entry) × (l.fn.members.entries ≡ done ++ l.key-iterator) × (keys_of l.map ≡ map string_bytes (keys_of done))
    × (entries_in (members_view l.fn.members.entries) ≡ option_map (entries_after l.map) (entries_in (members_view l.key-iterator)))
