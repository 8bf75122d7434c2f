use Rattle.std.proofs.Common.{arith, List, sym, subst, ℕ}
use Rattle.doip_json.specs.Value.{Value, values_from, entries_from}
use Rattle.doip_json.specs.Meaning.{value_of}
use Rattle.doip_json.specs.Sound.{AreSound, EntriesAreSound, IsAscending}
use Rattle.doip_json.proofs.Lists.{take_next, item_depth, entry_depth, entry_read}
use Rattle.std.proofs.lemmas.List.{take_all}
use Rattle.doip_json.proofs.Soundness.{AreSound-append, EntriesAreSound-append, keys_in-entries_from}
use Rattle.doip_exchange.proofs.sound.+recall.Goals as goal

pub recall_list-recall-requires : goal.recall_list-recall-requires
recall_list-recall-requires t c =
    (omega (arith, item_depth c.args.items.now c.loop-i.i (value_of c.item.result.now) c.item.ensures), tt)

pub recall_map-recall-requires : goal.recall_map-recall-requires
recall_map-recall-requires t c =
    (omega (arith, entry_depth c.args.entries.now c.loop-i.i (value_of c.value_at.result.now) c.value_at.ensures), tt)

pub recall_list-loop-i-preserved : goal.recall_list-loop-i-preserved
recall_list-loop-i-preserved t c =
    subst (λ (vs : List Value). AreSound (values_from vs))
    (sym (take_next c.args.items.now c.loop-i.i (value_of c.item.result.now) c.item.ensures))
    (AreSound-append _ _ c.loop-i.invariant c.recall.ensures)

pub recall_map-loop-i-preserved : goal.recall_map-loop-i-preserved
recall_map-loop-i-preserved t c =
    let one = entry_read c.args.entries.now c.loop-i.i c.key_at.result.now (value_of c.value_at.result.now)
    c.key_at.ensures c.value_at.ensures in
    subst (λ (es : List (List ℕ × Value)). EntriesAreSound (entries_from es))
    (sym (take_next c.args.entries.now c.loop-i.i (c.key_at.result.now, value_of c.value_at.result.now) one))
    (EntriesAreSound-append _ _ _ c.loop-i.invariant c.get.ensures.utf8 c.recall.ensures)

pub recall_map-returns : goal.recall_map-returns
recall_map-returns t c =
    let es = c.args.entries.now in (
      subst IsAscending (sym (keys_in-entries_from es)) c.len-i-end.ensures.ascending,
      subst (λ (x : List (List ℕ × Value)). EntriesAreSound (entries_from x)) (take_all c.loop-i.i es (omega (arith, c.len-i-end.ensures.len)))
          c.loop-i.invariant,
    )
