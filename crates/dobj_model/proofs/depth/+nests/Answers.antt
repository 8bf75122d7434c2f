use Rattle.std.proofs.Common.{◌≤◌, refl, arith}
use Rattle.doip_json.specs.Value.{depth_of}
use Rattle.doip_json.specs.Meaning.{value_of}
use Rattle.doip_json.proofs.Lists.{item_depth, entry_depth}
use Rattle.dobj_model.proofs.Depths.{item_deeper, entry_deeper}
use Rattle.dobj_model.proofs.depth.+nests.Goals as goal

pub items_within-returns-then-not-nests_within : goal.items_within-returns-then-not-nests_within
items_within-returns-then-not-nests_within t c =
    let deep = item_depth c.args.list.now c.loop-i.i (value_of c.item.result.now) c.item.ensures in
    (λ no. absurd (cc), λ shallow. c.if-not-nests_within.ensures.1 (omega (arith, deep)))

pub items_within-loop-i-preserved : goal.items_within-loop-i-preserved
items_within-loop-i-preserved t c =
    let l = c.loop-i in
    let shallow : depth_of (value_of c.item.result.now) ≤ c.args.depth = c.if-not-nests_within.ensures.0 refl in
    let more = item_deeper c.args.list.now l.i (value_of c.item.result.now) c.item.ensures in
    omega (arith, more, shallow, l.invariant)

pub entries_within-returns-then-not-nests_within : goal.entries_within-returns-then-not-nests_within
entries_within-returns-then-not-nests_within t c =
    let deep = entry_depth c.args.map.now c.loop-i.i (value_of c.value_at.result.now) c.value_at.ensures in
    (λ no. absurd (cc), λ shallow. c.if-not-nests_within.ensures.1 (omega (arith, deep)))

pub entries_within-loop-i-preserved : goal.entries_within-loop-i-preserved
entries_within-loop-i-preserved t c =
    let l = c.loop-i in
    let shallow : depth_of (value_of c.value_at.result.now) ≤ c.args.depth = c.if-not-nests_within.ensures.0 refl in
    let more = entry_deeper c.args.map.now l.i (value_of c.value_at.result.now) c.value_at.ensures in
    omega (arith, more, shallow, l.invariant)
