use Rattle.std.proofs.Common.{◌≡◌, nat_eq, codes, true, false, map, sym, ap, ◌∙◌, arith}
use Rattle.std.specs.Cmp.Lexicographic.{pointwise}
use Rattle.std.specs.List.{list_any, flat_map}
use Rattle.std.proofs.lemmas.List.{drop_all}
use Rattle.doip_json.specs.Meaning.{value_of}
use Rattle.dobj_field.specs.Reach.{led_to, passes}
use Rattle.dobj_field.proofs.ReachLemmas.{over_array, any_hit, any_miss}
use Rattle.dobj_field.proofs.reach.+leads_to.Goals as goal

-- what is reached is what the rest of the tokens reaches in the items
pub returns-then-leads_to : goal.returns-then-leads_to
returns-then-leads_to t c =
    let p = passes c.args.test.now in
    let f = led_to c.in-Some.rest.now in
    let items = c.items-item-items.result.now in
    let hit =
    any_hit p f items c.loop-item.item-index c.item-item.result c.loop-item-test.true c.item-item.is
    (sym c.if-leads_to.ensures) in
    let all : list_any p (flat_map f (map value_of items)) ≡ true = c.loop-item.invariant ∙ hit in
    let same : pointwise nat_eq c.in-Some.token.now (codes "_") ≡ true = grind arith in
    let whole =
    over_array c.args.tokens.now c.in-Some.token.now c.in-Some.rest.now c.in-Items.list c.in-Some.ensures.cases.0
    same in
    rw c.in-Items.is (sym (ap (list_any p) whole
    ∙ (ap (λ vs. list_any p (flat_map f vs)) (sym c.items-item-items.ensures) ∙ all)))

pub loop-item-preserved : goal.loop-item-preserved
loop-item-preserved t c =
    let p = passes c.args.test.now in
    let f = led_to c.in-Some.rest.now in
    let items = c.items-item-items.result.now in
    c.loop-item.invariant
    ∙ any_miss p f items c.loop-item.item-index c.item-item.result c.loop-item-test.true c.item-item.is
    (sym c.if-leads_to.ensures)

pub returns-after-loop-item : goal.returns-after-loop-item
returns-after-loop-item t c =
    let p = passes c.args.test.now in
    let f = led_to c.in-Some.rest.now in
    let items = c.items-item-items.result.now in
    let none : list_any p (flat_map f (map value_of items)) ≡ false =
    c.loop-item.invariant
    ∙ ap (λ l. list_any p (flat_map f (map value_of l))) (drop_all c.loop-item.item-index items (omega arith)) in
    let same : pointwise nat_eq c.in-Some.token.now (codes "_") ≡ true = grind arith in
    let whole =
    over_array c.args.tokens.now c.in-Some.token.now c.in-Some.rest.now c.in-Items.list c.in-Some.ensures.cases.0
    same in
    rw c.in-Items.is (sym (ap (list_any p) whole
    ∙ (ap (λ vs. list_any p (flat_map f vs)) (sym c.items-item-items.ensures) ∙ none)))
