use Rattle.std.proofs.Common.{length, take, ap, sym, subst, arith}
use Rattle.std.proofs.lemmas.List.{take_all}
use Rattle.doip_json.specs.Text.{string_of}
use Rattle.doip_json.specs.Meaning.{value_of}
use Rattle.doip_json.specs.Value.{values_from, entries_from}
use Rattle.doip_json.specs.Sound.{IsAscending, AreSound, EntriesAreSound}
use Rattle.doip_json.proofs.Soundness.{AreSound-append, EntriesAreSound-append, keys_in-entries_from}
use Rattle.doip_json.proofs.Lists.{item_depth, entry_depth, take_next, entry_read}
use Rattle.dobj_model.specs.Lengths.{items_total, entries_total}
use Rattle.dobj_model.proofs.Totals.{item_next, entry_next, list_total, table_total}
use Rattle.dobj_model.proofs.length.+length.Goals as goal

pub list_length-value_length-requires : goal.list_length-value_length-requires
list_length-value_length-requires t c =
    (omega (arith, item_depth c.args.items.now c.loop-i.i (value_of c.item.result.now) c.item.ensures), tt)

pub entries_length-value_length-requires : goal.entries_length-value_length-requires
entries_length-value_length-requires t c =
    (omega (arith, entry_depth c.args.map.now c.loop-i.i (value_of c.value_at.result.now) c.value_at.ensures), tt)

pub list_length-loop-i-preserved : goal.list_length-loop-i-preserved
list_length-loop-i-preserved t c =
    let l = c.loop-i in
    let v = value_of c.item.result.now in
    let more = item_next c.args.items.now l.i v c.item.ensures in
    let next = take_next c.args.items.now l.i v c.item.ensures in (
      omega (
        arith,
        more,
        l.invariant.0,
        c.value_length.ensures.length,
        c.saturating_add.ensures,
        c.saturating_add-total.ensures,
      ),
      subst (λ vs. AreSound (values_from vs)) (sym next)
          (AreSound-append (take l.i c.args.items.now) v l.invariant.1 c.value_length.ensures.sound),
    )

pub list_length-returns-clause-length : goal.list_length-returns-clause-length
list_length-returns-clause-length t c =
    let all = ap items_total (take_all c.loop-i.i c.args.items.now (omega arith)) in
    omega (arith, all, c.loop-i.invariant.0, list_total c.args.items.now, c.max.ensures, c.saturating_add-2.ensures)

pub list_length-returns-clause-sound : goal.list_length-returns-clause-sound
list_length-returns-clause-sound t c =
    subst (λ vs. AreSound (values_from vs)) (take_all c.loop-i.i c.args.items.now (omega arith)) c.loop-i.invariant.1

pub map_length-returns-clause-length : goal.map_length-returns-clause-length
map_length-returns-clause-length t c = omega (arith, table_total c.args.map.now, c.entries_length.ensures.length)

pub entries_length-loop-i-preserved : goal.entries_length-loop-i-preserved
entries_length-loop-i-preserved t c =
    let l = c.loop-i in
    let k = c.key_at.result.now in
    let v = value_of c.value_at.result.now in
    let more = entry_next c.args.map.now l.i k v c.key_at.ensures c.value_at.ensures in
    let named = ap (λ s. length (string_of s)) c.get.ensures.text in
    let next =
    take_next c.args.map.now l.i (k, v) (entry_read c.args.map.now l.i k v c.key_at.ensures c.value_at.ensures) in (
      omega (
        arith,
        more,
        named,
        l.invariant.0,
        c.string_length.ensures,
        c.saturating_add-key.ensures,
        c.saturating_add.ensures,
        c.value_length.ensures.length,
        c.saturating_add-total.ensures,
      ),
      subst (λ es. EntriesAreSound (entries_from es)) (sym next)
          (EntriesAreSound-append (take l.i c.args.map.now) k v l.invariant.1 c.get.ensures.utf8
          c.value_length.ensures.sound),
    )

pub entries_length-returns-clause-length : goal.entries_length-returns-clause-length
entries_length-returns-clause-length t c =
    let all = ap entries_total (take_all c.loop-i.i c.args.map.now (omega arith)) in
    omega (arith, all, c.loop-i.invariant.0)

pub entries_length-returns-clause-sound : goal.entries_length-returns-clause-sound
entries_length-returns-clause-sound t c = (
  subst IsAscending (sym (keys_in-entries_from c.args.map.now)) c.len-i-end.ensures.ascending,
  subst (λ es. EntriesAreSound (entries_from es))
      (take_all c.loop-i.i c.args.map.now (omega arith)) c.loop-i.invariant.1,
)
