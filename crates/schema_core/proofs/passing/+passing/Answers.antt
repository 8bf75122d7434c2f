use Rattle.std.proofs.Common.{◌+◌, drop, [], ◌&&◌, option_map, unwrap_or, sym, ap, ◌∙◌, arith}
use Rattle.doip_json.specs.Meaning.{value_of}
use Rattle.doip_json.proofs.Lists.{item_depth, entry_depth}
use Rattle.doip_json.specs.Value.{values_from, entries_from}
use Rattle.schema_core.specs.Rules.{property_of}
use Rattle.schema_core.specs.References.{references_at, entry_references, item_references, all_pass}
use Rattle.schema_core.proofs.ReadingLemmas.{next_entry}
use Rattle.schema_core.proofs.ShapeLemmas.{next_item}
use Rattle.schema_core.proofs.PassingLemmas.{entry_next, item_next}
use Rattle.schema_core.proofs.passing.+passing.Goals as goal

pub holds_in_array-holds_in-requires : goal.holds_in_array-holds_in-requires
holds_in_array-holds_in-requires g t c κs within =
    (omega (arith, item_depth c.args.items.now c.loop-i.i (value_of c.item.result.now) c.item.ensures), within)

pub holds_in_object-holds_under-requires : goal.holds_in_object-holds_under-requires
holds_in_object-holds_under-requires g t c κs within =
    (omega (arith, entry_depth c.args.map.now c.loop-i.i (value_of c.value_at.result.now) c.value_at.ensures), within)

pub holds_in_array-returns-then-not-holds_in : goal.holds_in_array-returns-then-not-holds_in
holds_in_array-returns-then-not-holds_in g t c names =
    let test = g.T.ReferenceTest.holds_of c.args.test.now in
    sym (c.loop-i.invariant names
    ∙ item_next test c.args.schema.now c.args.items.now c.loop-i.i (value_of c.item.result.now)
    (next_item c.args.items.now c.loop-i.i
    (value_of c.item.result.now) c.item.ensures) c.holds_in.result c.holds_in.ensures names
    ∙ ap (λ b. b
    && all_pass test (item_references names c.args.schema.now (c.loop-i.i + 1) (values_from (drop
    (c.loop-i.i + 1) c.args.items.now)))) c.if-not-holds_in.true)

pub holds_in_array-loop-i-preserved : goal.holds_in_array-loop-i-preserved
holds_in_array-loop-i-preserved g t c names =
    let test = g.T.ReferenceTest.holds_of c.args.test.now in
    c.loop-i.invariant names
    ∙ item_next test c.args.schema.now c.args.items.now c.loop-i.i (value_of c.item.result.now)
    (next_item c.args.items.now c.loop-i.i
    (value_of c.item.result.now) c.item.ensures) c.holds_in.result c.holds_in.ensures names
    ∙ ap (λ b. b
    && all_pass test (item_references names c.args.schema.now (c.loop-i.i + 1) (values_from (drop
    (c.loop-i.i + 1) c.args.items.now)))) c.if-not-holds_in.false

pub holds_in_object-returns-then-not-holds_under : goal.holds_in_object-returns-then-not-holds_under
holds_in_object-returns-then-not-holds_under g t c names =
    let test = g.T.ReferenceTest.holds_of c.args.test.now in
    let r = c.args.schema.now in
    let es = c.args.map.now in
    let i = c.loop-i.i in
    let v = value_of c.value_at.result.now in
    sym (c.loop-i.invariant names
    ∙ entry_next test r es i c.key_at.result.now v
    (next_entry es i c.key_at.result.now v c.key_at.ensures c.value_at.ensures)
    c.holds_under.result
    (λ ns.
    c.holds_under.ensures ns
    ∙ ap (λ o. all_pass test (unwrap_or (option_map (λ inner. references_at ns inner v) o) []))
    (c.property-inner.ensures ∙ ap (λ k. property_of k r) c.get.ensures.text))
    names
    ∙ ap (λ b. b
    && all_pass test (entry_references names r (entries_from (drop (i + 1) es)))) c.if-not-holds_under.true)

pub holds_in_object-loop-i-preserved : goal.holds_in_object-loop-i-preserved
holds_in_object-loop-i-preserved g t c names =
    let test = g.T.ReferenceTest.holds_of c.args.test.now in
    let r = c.args.schema.now in
    let es = c.args.map.now in
    let i = c.loop-i.i in
    let v = value_of c.value_at.result.now in
    c.loop-i.invariant names
    ∙ entry_next test r es i c.key_at.result.now v
    (next_entry es i c.key_at.result.now v c.key_at.ensures c.value_at.ensures)
    c.holds_under.result
    (λ ns.
    c.holds_under.ensures ns
    ∙ ap (λ o. all_pass test (unwrap_or (option_map (λ inner. references_at ns inner v) o) []))
    (c.property-inner.ensures ∙ ap (λ k. property_of k r) c.get.ensures.text))
    names
    ∙ ap (λ b. b
    && all_pass test (entry_references names r (entries_from (drop (i + 1) es)))) c.if-not-holds_under.false
