use Rattle.std.proofs.Common.{[], ◌∷◌, Some, refl, sym, ap, ◌∙◌, subst, arith, decimal}
use Rattle.doip_json.specs.Value.{Value, list, table, values_from, entries_from}
use Rattle.doip_json.specs.Meaning.{value_of}
use Rattle.doip_json.proofs.Lists.{item_depth, entry_depth}
use Rattle.schema_core.specs.declared.word.SchemaWord.TheVariants.{AdditionalProperties}
use Rattle.schema_core.specs.Rules.{property_of}
use Rattle.schema_core.specs.Failing.{HasEntry}
use Rattle.schema_core.specs.First.{IsFirstHere}
use Rattle.schema_core.proofs.FirstLemmas.{names_itself, name_added, none_fails, none_more, entry_within, item_within, first_key, first_property, first_item, none_at_property, none_at_key, none_at_item, has_entry, has_item, entry_there}
use Rattle.schema_core.proofs.pointer.+failing.Goals as goal
use Rattle.schema_core.proofs.pointer.+failing.Goals.{failing_entry-in-Some+in_ok-names-in-Some+in_default, failing_entry-in-None+else-not-words}

pub failing-returns-in-Some : goal.failing-returns-in-Some
failing-returns-in-Some t c =
    names_itself c.args.schema.now (value_of c.args.value.now) c.in-Some.field-0 c.new.result.items
    (subst (λ w. IsFirstHere w (value_of c.args.value.now) (Some c.in-Some.field-0)) c.words.ensures c.in-Some.ensures) c.new.ensures.items

pub failing_entry-failing-requires : goal.failing_entry-failing-requires
failing_entry-failing-requires t c = (omega (arith, entry_depth c.args.map.now c.loop-i.i (value_of c.value_at.result.now) c.value_at.ensures), tt)

pub failing_entry-returns-in-Some-2 : goal.failing_entry-returns-in-Some-2
failing_entry-returns-in-Some-2 t c =
    let es = c.args.map.now in
    let i = c.loop-i.i in
    let key = c.key_at.result.now in
    let v = value_of c.value_at.result.now in
    let has = has_entry es i key v c.key_at.ensures c.value_at.ensures in
    let there = ap (λ k. property_of k c.args.schema.now) (sym c.get-key.ensures.text) ∙ sym c.in-Some.ensures in
    let inner = rw c.in-Some-2.is at c.in_ok-names-in-Some.ensures in (
      (i, key) ∷ inner.0,
      inner.1,
      first_property c.args.schema.now (entries_from es) i key v c.in-Some.inner.now inner.0 inner.1 c.requires c.loop-i.invariant has there inner.2,
      name_added _ _ _ key i inner.0 c.in_ok-with_name-in-Some.ensures c.get-key.ensures.text inner.3,
    )

pub failing_entry-returns-then-not-words : goal.failing_entry-returns-then-not-words
failing_entry-returns-then-not-words t c =
    let es = c.args.map.now in
    let i = c.loop-i.i in
    let key = c.key_at.result.now in
    let has : (v : Value) × HasEntry (entries_from es) i key v = entry_there es i key c.key_at.ensures in
    let none = ap (λ k. property_of k c.args.schema.now) (sym c.get-key.ensures.text) ∙ sym c.in-None.ensures in
    let closed = sym (ap (λ w. w.additional_properties) c.words.ensures) ∙ c.if-not-words.true in (
      (i, key) ∷ [],
      AdditionalProperties,
      first_key c.args.schema.now (entries_from es) i key has.0 c.requires c.loop-i.invariant has.1 none closed,
      name_added _ _ _ key i [] c.in_ok-with_name-in-None.ensures c.get-key.ensures.text c.new.ensures.items,
    )

pub failing_entry-loop-i-preserved : goal.failing_entry-loop-i-preserved
failing_entry-loop-i-preserved t c =
    let es = c.args.map.now in
    let i = c.loop-i.i in
    let key = c.key_at.result.now in
    let same = ap (λ k. property_of k c.args.schema.now) (sym c.get-key.ensures.text) in
    none_more c.args.schema.now (table (entries_from es)) i c.loop-i.invariant
    (elim c.match-property.branch [
      | failing_entry-in-Some+in_ok-names-in-Some+in_default w ↦
          let v = value_of w.value_at.result.now in
          none_at_property c.args.schema.now (entries_from es) i key v w.in-Some.inner.now (has_entry es i key v c.key_at.ensures w.value_at.ensures)
          (same ∙ sym w.in-Some.ensures) (rw w.in_default.is at w.in_ok-names-in-Some.ensures)
      | failing_entry-in-None+else-not-words w ↦
          let has = entry_there es i key c.key_at.ensures in
          none_at_key c.args.schema.now (entries_from es) i key has.0 has.1 (same ∙ sym w.in-None.ensures)
          (sym (ap (λ x. x.additional_properties) w.words.ensures) ∙ w.if-not-words.false)
    ])

pub failing_entry-returns : goal.failing_entry-returns
failing_entry-returns t c =
    let es = c.args.map.now in
    none_fails c.args.schema.now (table (entries_from es)) c.loop-i.i c.requires c.loop-i.invariant
    (λ j name path w fails. omega (arith, entry_within c.args.schema.now es j name path w fails, c.len-i-end.ensures.len))

pub failing_item-failing-requires : goal.failing_item-failing-requires
failing_item-failing-requires t c = (omega (arith, item_depth c.args.items.now c.loop-i.i (value_of c.item.result.now) c.item.ensures), tt)

pub failing_item-returns-in-Some-2 : goal.failing_item-returns-in-Some-2
failing_item-returns-in-Some-2 t c =
    let vs = c.args.items.now in
    let i = c.loop-i.i in
    let v = value_of c.item.result.now in
    let has = has_item vs i v c.item.ensures in
    let inner = rw c.in-Some-2.is at c.in_ok-names.ensures in (
      (i, decimal i) ∷ inner.0,
      inner.1,
      first_item c.args.schema.now (values_from vs) i v c.in-Some.inner.now inner.0 inner.1 c.requires c.loop-i.invariant has (sym c.in-Some.ensures) inner.2,
      name_added _ _ _ (decimal i) i inner.0 c.in_ok-with_position.ensures refl inner.3,
    )

pub failing_item-loop-i-preserved : goal.failing_item-loop-i-preserved
failing_item-loop-i-preserved t c =
    let vs = c.args.items.now in
    let i = c.loop-i.i in
    let v = value_of c.item.result.now in
    let has = has_item vs i v c.item.ensures in
    none_more c.args.schema.now (list (values_from vs)) i c.loop-i.invariant
    (none_at_item c.args.schema.now (values_from vs) i v c.in-Some.inner.now has (sym c.in-Some.ensures) (rw c.in_default-2.is at c.in_ok-names.ensures))

pub failing_item-returns : goal.failing_item-returns
failing_item-returns t c =
    let vs = c.args.items.now in
    none_fails c.args.schema.now (list (values_from vs)) c.loop-i.i c.requires c.loop-i.invariant
    (λ j name path w fails. omega (arith, item_within c.args.schema.now vs j name path w fails))
