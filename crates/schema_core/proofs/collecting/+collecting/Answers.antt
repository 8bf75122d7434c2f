use Rattle.std.proofs.Common.{[], ◌∷◌, ◌++◌, sym, ap, ◌∙◌, arith}
use Rattle.doip_json.specs.Meaning.{value_of}
use Rattle.doip_json.proofs.Lists.{item_depth, entry_depth}
use Rattle.schema_core.specs.Rules.{property_of}
use Rattle.schema_core.specs.References.{references_at}
use Rattle.schema_core.proofs.FirstLemmas.{value_there}
use Rattle.schema_core.proofs.ReadingLemmas.{next_entry}
use Rattle.schema_core.proofs.ShapeLemmas.{next_item}
use Rattle.schema_core.proofs.ReferenceLemmas.{entry_added, entry_passed, item_added}
use Rattle.schema_core.proofs.collecting.+collecting.Goals as goal
use Rattle.schema_core.proofs.collecting.+collecting.Goals.{collect_entries-in-Some+in_ok-name+in_ok-collect_under, collect_entries-in_default}

pub collect_entries-collect_under-requires : goal.collect_entries-collect_under-requires
collect_entries-collect_under-requires t c = (omega (arith, entry_depth c.args.map.now c.loop-i.i (value_of c.value_at.result.now) c.value_at.ensures), tt)

pub collect_items-collect_under-requires : goal.collect_items-collect_under-requires
collect_items-collect_under-requires t c = (omega (arith, item_depth c.args.items.now c.loop-i.i (value_of c.item.result.now) c.item.ensures), tt)

pub collect_entries-loop-i-preserved : goal.collect_entries-loop-i-preserved
collect_entries-loop-i-preserved t c =
    let l = c.loop-i in
    let es = c.args.map.now in
    let key = c.key_at.result.now in
    let r = c.args.schema.now in
    let text = ap (λ k. property_of k r) (sym c.get-key.ensures.text) in
    elim c.match-property.branch [
      | collect_entries-in-Some+in_ok-name+in_ok-collect_under w ↦
          let v = value_of w.value_at.result.now in
          let names = ap (λ x. x.items) w.names-is ∙ w.in_ok-collect_under.ensures.names in
          let grown = w.found-is ∙ (w.in_ok-collect_under.ensures.found
          ∙ ap (λ name. l.found ++ references_at (l.names.items ++ name ∷ []) w.in-Some.inner.now v) (w.in_ok-name.ensures ∙ c.get-key.ensures.text)) in
          record {
            names = names ∙ l.invariant.names;
            found = entry_added r es l.i key v l.names.items _ l.found _ _ (next_entry es l.i key v c.key_at.ensures w.value_at.ensures) names l.invariant.found
                w.in-Some.inner.now (text ∙ sym w.in-Some.ensures) grown;
          }
      | collect_entries-in_default w ↦
          let there = value_there es l.i key c.key_at.ensures in
          let names = ap (λ x. x.items) w.names-is in
          record {
            names = names ∙ l.invariant.names;
            found = entry_passed r es l.i key there.0 l.names.items _ l.found _ _ (next_entry es l.i key there.0 c.key_at.ensures there.1) names l.invariant.found
                (text ∙ sym w.in_default.ensures) w.found-is;
          }
    ]

pub collect_items-loop-i-preserved : goal.collect_items-loop-i-preserved
collect_items-loop-i-preserved t c =
    let l = c.loop-i in
    let vs = c.args.items.now in
    let v = value_of c.item.result.now in
    let names = c.in_ok-collect_under.ensures.names in
    let grown = c.in_ok-collect_under.ensures.found
    ∙ ap (λ name. l.found ++ references_at (l.names.items ++ name ∷ []) c.args.schema.now v) c.in_ok-name.ensures in
    record {
      names = names ∙ l.invariant.names;
      found = item_added c.args.schema.now vs l.i v l.names.items _ l.found _ _ (next_item vs l.i v c.item.ensures) names l.invariant.found grown;
    }
