use Rattle.std.proofs.Common.{[], ◌∷◌, Some, sym, ap, ◌∙◌, subst, arith, decimal}
use Rattle.doip_json.specs.Value.{Value, list, table, values_from, entries_from}
use Rattle.doip_json.specs.Meaning.{value_of}
use Rattle.doip_json.proofs.Lists.{item_depth, entry_depth}
use Rattle.schema_core.specs.Rules.{property_of}
use Rattle.schema_core.specs.Failing.{HasEntry}
use Rattle.schema_core.specs.First.{IsFirstHere}
use Rattle.schema_core.proofs.FirstLemmas.{first_itself, none_fails, none_more, entry_within, item_within, first_key, first_property, first_item, none_at_property, none_at_key, none_at_item, has_entry, has_item, entry_there}
use Rattle.schema_core.proofs.validity.+validity.Goals as goal
use Rattle.schema_core.proofs.validity.+validity.Goals.{first_in_object-in-Some+in_default, first_in_object-in-None+else-not-words}

pub first_in_array-valid-requires : goal.first_in_array-valid-requires
first_in_array-valid-requires t c = (omega (arith, item_depth c.args.items.now c.loop-i.i (value_of c.item.result.now) c.item.ensures), tt)

pub first_in_array-returns-in-Some : goal.first_in_array-returns-in-Some
first_in_array-returns-in-Some t c =
    let vs = c.args.items.now in
    let i = c.loop-i.i in
    let v = value_of c.item.result.now in
    let has = has_item vs i v c.item.ensures in
    let inner = c.in-Some.ensures in (
      (i, decimal i) ∷ inner.0,
      first_item c.args.schema.now (values_from vs) i v c.in_ok-inner.inner.now inner.0 c.in-Some.word c.requires c.loop-i.invariant has (sym c.in_ok-inner.ensures) inner.1,
    )

pub first_in_array-loop-i-preserved : goal.first_in_array-loop-i-preserved
first_in_array-loop-i-preserved t c =
    let vs = c.args.items.now in
    let i = c.loop-i.i in
    let v = value_of c.item.result.now in
    let has = has_item vs i v c.item.ensures in
    none_more c.args.schema.now (list (values_from vs)) i c.loop-i.invariant
    (none_at_item c.args.schema.now (values_from vs) i v c.in_ok-inner.inner.now has (sym c.in_ok-inner.ensures) c.in_default.ensures)

pub first_in_array-returns : goal.first_in_array-returns
first_in_array-returns t c =
    let vs = c.args.items.now in
    none_fails c.args.schema.now (list (values_from vs)) c.loop-i.i c.requires c.loop-i.invariant
    (λ j name path w fails. omega (arith, item_within c.args.schema.now vs j name path w fails))

pub first_in_object-valid-requires : goal.first_in_object-valid-requires
first_in_object-valid-requires t c = (omega (arith, entry_depth c.args.map.now c.loop-i.i (value_of c.value_at.result.now) c.value_at.ensures), tt)

pub first_in_object-returns-in-Some-valid : goal.first_in_object-returns-in-Some-valid
first_in_object-returns-in-Some-valid t c =
    let es = c.args.map.now in
    let i = c.loop-i.i in
    let key = c.key_at.result.now in
    let v = value_of c.value_at.result.now in
    let has = has_entry es i key v c.key_at.ensures c.value_at.ensures in
    let there = ap (λ k. property_of k c.args.schema.now) (sym c.get.ensures.text) ∙ sym c.in-Some.ensures in
    let inner = c.in-Some-valid.ensures in (
      (i, key) ∷ inner.0,
      first_property c.args.schema.now (entries_from es) i key v c.in-Some.inner.now inner.0 c.in-Some-valid.word c.requires c.loop-i.invariant has there inner.1,
    )

pub first_in_object-returns-then-not-words : goal.first_in_object-returns-then-not-words
first_in_object-returns-then-not-words t c =
    let es = c.args.map.now in
    let i = c.loop-i.i in
    let key = c.key_at.result.now in
    let has : (v : Value) × HasEntry (entries_from es) i key v = entry_there es i key c.key_at.ensures in
    let none = ap (λ k. property_of k c.args.schema.now) (sym c.get.ensures.text) ∙ sym c.in-None.ensures in
    let closed = sym (ap (λ w. w.additional_properties) c.words.ensures) ∙ c.if-not-words.true in
    ((i, key) ∷ [], first_key c.args.schema.now (entries_from es) i key has.0 c.requires c.loop-i.invariant has.1 none closed)

pub first_in_object-loop-i-preserved : goal.first_in_object-loop-i-preserved
first_in_object-loop-i-preserved t c =
    let es = c.args.map.now in
    let i = c.loop-i.i in
    let key = c.key_at.result.now in
    let same = ap (λ k. property_of k c.args.schema.now) (sym c.get.ensures.text) in
    none_more c.args.schema.now (table (entries_from es)) i c.loop-i.invariant
    (elim c.match-property.branch [
      | first_in_object-in-Some+in_default w ↦
          let v = value_of w.value_at.result.now in
          none_at_property c.args.schema.now (entries_from es) i key v w.in-Some.inner.now (has_entry es i key v c.key_at.ensures w.value_at.ensures)
          (same ∙ sym w.in-Some.ensures) w.in_default.ensures
      | first_in_object-in-None+else-not-words w ↦
          let has = entry_there es i key c.key_at.ensures in
          none_at_key c.args.schema.now (entries_from es) i key has.0 has.1 (same ∙ sym w.in-None.ensures)
          (sym (ap (λ x. x.additional_properties) w.words.ensures) ∙ w.if-not-words.false)
    ])

pub first_in_object-returns : goal.first_in_object-returns
first_in_object-returns t c =
    let es = c.args.map.now in
    none_fails c.args.schema.now (table (entries_from es)) c.loop-i.i c.requires c.loop-i.invariant
    (λ j name path w fails. omega (arith, entry_within c.args.schema.now es j name path w fails, c.len-i-end.ensures.len))

pub valid-returns-in-Some : goal.valid-returns-in-Some
valid-returns-in-Some t c =
    let words = c.words.ensures in
    first_itself c.args.schema.now (value_of c.args.value.now) c.in-Some.word
    (subst (λ w. IsFirstHere w (value_of c.args.value.now) (Some c.in-Some.word)) words c.in-Some.ensures)
