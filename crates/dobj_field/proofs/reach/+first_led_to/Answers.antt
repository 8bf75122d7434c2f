use Rattle.std.proofs.Common.{◌≡◌, nat_eq, codes, true, Some, None, map, sym, ap, ◌∙◌, arith}
use Rattle.std.specs.Cmp.Lexicographic.{pointwise}
use Rattle.std.specs.List.{find, flat_map}
use Rattle.std.proofs.lemmas.List.{drop_all}
use Rattle.doip_json.specs.Meaning.{value_of}
use Rattle.dobj_field.specs.Reach.{led_to, is_scalar}
use Rattle.dobj_field.specs.Scalar.{scalar_value}
use Rattle.dobj_field.proofs.ReachLemmas.{over_array, find_hit, find_miss}
use Rattle.dobj_field.proofs.reach.+first_led_to.Goals as goal

pub returns-in-Some-first_led_to : goal.returns-in-Some-first_led_to
returns-in-Some-first_led_to t c =
    let f = led_to c.in-Some.rest.now in
    let items = c.items-item-items.result.now in
    let hit =
    find_hit is_scalar f items c.loop-item.item-index c.item-item.result
    (scalar_value c.in-Some-first_led_to.scalar) c.loop-item-test.true c.item-item.is
    (sym c.in-Some-first_led_to.ensures) in
    let all : find is_scalar (flat_map f (map value_of items)) ≡ Some (scalar_value c.in-Some-first_led_to.scalar) =
    c.loop-item.invariant ∙ hit in
    let same : pointwise nat_eq c.in-Some.token.now (codes "_") ≡ true = grind arith in
    let whole =
    over_array c.args.tokens.now c.in-Some.token.now c.in-Some.rest.now c.in-Items.list c.in-Some.ensures.cases.0
    same in
    rw c.in-Items.is (sym (ap (find is_scalar) whole
    ∙ (ap (λ vs. find is_scalar (flat_map f vs)) (sym c.items-item-items.ensures) ∙ all)))

pub loop-item-preserved : goal.loop-item-preserved
loop-item-preserved t c =
    let f = led_to c.in-Some.rest.now in
    let items = c.items-item-items.result.now in
    c.loop-item.invariant
    ∙ find_miss is_scalar f items c.loop-item.item-index c.item-item.result c.loop-item-test.true c.item-item.is
    (grind arith)

pub returns-after-loop-item : goal.returns-after-loop-item
returns-after-loop-item t c =
    let f = led_to c.in-Some.rest.now in
    let items = c.items-item-items.result.now in
    let none : find is_scalar (flat_map f (map value_of items)) ≡ None =
    c.loop-item.invariant
    ∙ ap (λ l. find is_scalar (flat_map f (map value_of l))) (drop_all c.loop-item.item-index items (omega arith)) in
    let same : pointwise nat_eq c.in-Some.token.now (codes "_") ≡ true = grind arith in
    let whole =
    over_array c.args.tokens.now c.in-Some.token.now c.in-Some.rest.now c.in-Items.list c.in-Some.ensures.cases.0
    same in
    rw c.in-Items.is (sym (ap (find is_scalar) whole
    ∙ (ap (λ vs. find is_scalar (flat_map f vs)) (sym c.items-item-items.ensures) ∙ none)))
