use Rattle.std.proofs.Common.{◌≡◌, ◌+◌, ◌*◌, ◌-◌, ◌^◌, min, take}
use Rattle.doip_json.specs.Value.{depth_of, deepest_value, deepest_entry, values_from, entries_from}
use Rattle.doip_json.specs.Meaning.{value_of}
use Rattle.doip_json.proofs.Rooms.{items_room, entries_room}
use Rattle.doip_json.proofs.room.+room.Given as goal

abbrev pub decreases-room_of : goal.decreases-room_of
decreases-room_of l = 2 * depth_of (value_of l.value.now)

abbrev pub decreases-list_room : goal.decreases-list_room
decreases-list_room l = 2 * deepest_value (values_from l.list.now) + 1

abbrev pub decreases-map_room : goal.decreases-map_room
decreases-map_room l = 2 * deepest_entry (entries_from l.map.now) + 1

abbrev pub invariant-list_room-loop-i : goal.invariant-list_room-loop-i
invariant-list_room-loop-i l = l.room ≡ min (items_room (take l.i l.list) + 4) (2 ^ 64 - 1)

abbrev pub invariant-map_room-loop-i : goal.invariant-map_room-loop-i
invariant-map_room-loop-i l = l.room ≡ min (entries_room (take l.i l.map) + 4) (2 ^ 64 - 1)
