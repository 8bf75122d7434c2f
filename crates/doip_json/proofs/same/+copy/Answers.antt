use Rattle.std.proofs.Common.{◌+◌, arith, sym, ◌∙◌}
use Rattle.doip_json.proofs.Ascending.{ascending_take}
use Rattle.doip_json.specs.Meaning.{value_of}
use Rattle.doip_json.proofs.Lists.{take_next, item_depth, entry_depth, entry_read}
use Rattle.doip_json.proofs.same.+copy.Goals as goal

pub copy_list-copy-requires : goal.copy_list-copy-requires
copy_list-copy-requires t c = (omega (arith, item_depth c.args.list.now c.loop-i.i (value_of c.item.result.now) c.item.ensures), tt)

pub copy_map-copy-requires : goal.copy_map-copy-requires
copy_map-copy-requires t c = (omega (arith, entry_depth c.args.map.now c.loop-i.i (value_of c.value_at.result.now) c.value_at.ensures), tt)

pub copy_list-loop-i-preserved : goal.copy_list-loop-i-preserved
copy_list-loop-i-preserved t c =
    let next = take_next c.args.list.now c.loop-i.i (value_of c.item.result.now) c.item.ensures in
    c.in_ok-push.ensures.ok ∙ rw (c.loop-i.invariant, c.in_ok-copy.ensures) (sym next)

pub copy_map-push_last-requires : goal.copy_map-push_last-requires
copy_map-push_last-requires t c =
    let i = c.loop-i.i in
    let one = entry_read c.args.map.now i c.key_at.result.now (value_of c.value_at.result.now) c.key_at.ensures c.value_at.ensures in
    let next = take_next c.args.map.now i (c.key_at.result.now, value_of c.value_at.result.now) one in
    rw (c.loop-i.invariant, c.in_ok-copy.ensures, c.in_ok-key.ensures, c.get.ensures.text, ← next) (ascending_take c.args.map.now (i + 1) c.len-i-end.ensures.ascending)

pub copy_map-loop-i-preserved : goal.copy_map-loop-i-preserved
copy_map-loop-i-preserved t c =
    let i = c.loop-i.i in
    let one = entry_read c.args.map.now i c.key_at.result.now (value_of c.value_at.result.now) c.key_at.ensures c.value_at.ensures in
    let next = take_next c.args.map.now i (c.key_at.result.now, value_of c.value_at.result.now) one in
    c.in_ok-push_last.ensures.ok ∙ rw (c.loop-i.invariant, c.in_ok-copy.ensures, c.in_ok-key.ensures, c.get.ensures.text) (sym next)
