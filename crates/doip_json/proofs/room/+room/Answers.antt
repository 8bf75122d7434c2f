use Rattle.std.proofs.Common.{ap, arith}
use Rattle.std.proofs.lemmas.List.{take_all}
use Rattle.doip_json.specs.Meaning.{value_of}
use Rattle.doip_json.proofs.Lists.{item_depth, entry_depth}
use Rattle.doip_json.proofs.Rooms.{items_room, entries_room, key_room, item_next, entry_next, list_total, map_total, string_total, key_total}
use Rattle.doip_json.proofs.room.+room.Goals as goal

pub list_room-room_of-requires : goal.list_room-room_of-requires
list_room-room_of-requires t c = (omega (arith, item_depth c.args.list.now c.loop-i.i (value_of c.item.result.now) c.item.ensures), tt)

pub map_room-room_of-requires : goal.map_room-room_of-requires
map_room-room_of-requires t c = (omega (arith, entry_depth c.args.map.now c.loop-i.i (value_of c.value_at.result.now) c.value_at.ensures), tt)

pub list_room-loop-i-preserved : goal.list_room-loop-i-preserved
list_room-loop-i-preserved t c =
    let l = c.loop-i in
    let more = item_next c.args.list.now l.i (value_of c.item.result.now) c.item.ensures in
    omega (arith, more, l.invariant, c.room_of.ensures, c.saturating_add-room.ensures)

pub list_room-returns : goal.list_room-returns
list_room-returns t c =
    let all = ap items_room (take_all c.loop-i.i c.args.list.now (omega arith)) in
    omega (arith, all, c.loop-i.invariant, list_total c.args.list.now)

pub map_room-loop-i-preserved : goal.map_room-loop-i-preserved
map_room-loop-i-preserved t c =
    let l = c.loop-i in
    let k = c.key_at.result.now in
    let more = entry_next c.args.map.now l.i k (value_of c.value_at.result.now) c.key_at.ensures c.value_at.ensures in
    let named = ap key_room c.get.ensures.text in
    let shape = string_total c.get.result.now in
    let colon = key_total c.get.result.now in
    omega (arith, more, named, shape, colon, l.invariant, c.string_room.ensures, c.saturating_add-key.ensures, c.saturating_add.ensures, c.room_of.ensures, c.saturating_add-room.ensures)

pub map_room-returns : goal.map_room-returns
map_room-returns t c =
    let all = ap entries_room (take_all c.loop-i.i c.args.map.now (omega arith)) in
    omega (arith, all, c.loop-i.invariant, map_total c.args.map.now)
