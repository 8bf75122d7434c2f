use Rattle.std.proofs.Common.{◌≡◌, arith, sym, ap, ◌∙◌, below_more, refl, ap₂, Some}
use Rattle.doip_json.specs.Value.{list, table, values_from, entries_from}
use Rattle.doip_json.specs.Meaning.{value_of}
use Rattle.doip_json.proofs.Lists.{same_lists, same_items, same_entries, item_depth, entry_depth, entry_read}
use Rattle.std.specs.Prelude.{Bool, true, false, not}
use Rattle.std.specs.Cmp.Lexicographic.{same_text}
use Rattle.doip_json.proofs.same.+same.Goals as goal

not_false : (b : Bool) → false ≡ not b → true ≡ b
not_false true e = refl
not_false false e = absurd (cc)

pub are_same-is_same-requires : goal.are_same-is_same-requires
are_same-is_same-requires t c = (omega (arith, item_depth c.args.a.now c.loop-i.i (value_of c.item.result.now) c.item.ensures), tt)

pub is_same_map-is_same-requires : goal.is_same_map-is_same-requires
is_same_map-is_same-requires t c = (omega (arith, entry_depth c.args.a.now c.loop-i.i (value_of c.value_at.result.now) c.value_at.ensures), tt)

pub are_same-returns : goal.are_same-returns
are_same-returns t c = (λ _. same_lists c.args.a.now c.args.b.now (omega arith) (λ j h. c.loop-i.invariant j (omega arith)), λ _. refl)

pub is_same_map-returns : goal.is_same_map-returns
is_same_map-returns t c = (λ _. same_lists c.args.a.now c.args.b.now (omega arith) (λ j h. c.loop-i.invariant j (omega arith)), λ _. refl)

pub is_same_map-loop-i-preserved : goal.is_same_map-loop-i-preserved
is_same_map-loop-i-preserved t c =
    let i = c.loop-i.i in
    let a = entry_read c.args.a.now i c.key_at.result.now (value_of c.value_at.result.now) c.key_at.ensures c.value_at.ensures in
    let b = entry_read c.args.b.now i c.key_at-in-loop-i.result.now (value_of c.value_at-else-ne.result.now) c.key_at-in-loop-i.ensures c.value_at-else-ne.ensures in
    let keys : c.key_at.result.now ≡ c.key_at-in-loop-i.result.now = sym c.get.ensures.text ∙ (same_text c.get.result.now c.get-in-loop-i.result.now (not_false _ c.if-ne.ensures) ∙ c.get-in-loop-i.ensures.text) in
    let values = c.is_same.ensures.0 c.if-not-is_same.false in
    below_more _ _ c.loop-i.invariant (a ∙ (ap₂ (λ k v. Some (k, v)) keys values ∙ sym b))

pub is_same-returns-in-Items-Items : goal.is_same-returns-in-Items-Items
is_same-returns-in-Items-Items t c =
    let both = c.are_same.ensures in
    let x = c.in-Items-Items.x in let y = c.in-Items-Items.y in
    rw (c.in-Items-Items.is-0, c.in-Items-Items.is-1) (λ yes. ap (λ vs. list (values_from vs)) (both.0 yes), λ same. both.1 (same_items x y same))

pub is_same-returns-in-Table-Table : goal.is_same-returns-in-Table-Table
is_same-returns-in-Table-Table t c =
    let both = c.is_same_map.ensures in
    let x = c.in-Table-Table.x in let y = c.in-Table-Table.y in
    rw (c.in-Table-Table.is-0, c.in-Table-Table.is-1) (λ yes. ap (λ vs. table (entries_from vs)) (both.0 yes), λ same. both.1 (same_entries x y same))
