use Rattle.std.proofs.Common.{◌≡◌, [], ◌∷◌, ◌++◌, drop, take, append_assoc, sym, ap, ◌∙◌, arith}
use Rattle.json.specs.Token.{begin_array, key}
use Rattle.doip_json.specs.Value.{values_from, entries_from}
use Rattle.doip_json.specs.Tokens.{tokens_of, item_tokens, entry_tokens}
use Rattle.doip_json.proofs.Printed.{item_tokens-append, entry_tokens-append}
use Rattle.doip_json.specs.Meaning.{value_of}
use Rattle.doip_json.proofs.Lists.{item_depth, entry_depth, entry_read, take_next}
use Rattle.dobj_model.proofs.Between.{between_next}
use Rattle.dobj_model.proofs.writing.+write.Goals as goal

pub write_list-write_value-requires : goal.write_list-write_value-requires
write_list-write_value-requires t c =
    (omega (arith, item_depth c.args.list.now c.loop-i.i (value_of c.item.result.now) c.item.ensures), tt)

pub write_entries-write_value-requires : goal.write_entries-write_value-requires
write_entries-write_value-requires t c =
    (omega (arith, entry_depth c.args.map.now c.loop-i.i (value_of c.value_at.result.now) c.value_at.ensures), tt)

pub write_list-loop-i-preserved : goal.write_list-loop-i-preserved
write_list-loop-i-preserved t c =
    let l = c.loop-i in
    let v = value_of c.item.result.now in
    let next = take_next c.args.list.now l.i v c.item.ensures in
    let more = ap (λ vs. item_tokens (values_from vs)) next ∙ item_tokens-append (take l.i c.args.list.now) v in
    record {
      written = c.in_ok-write_value.ensures.ok
          ∙ (ap (λ ts. ts ++ tokens_of v) l.invariant.written
          ∙ (append_assoc c.args.out.now.tokens (begin_array ∷ item_tokens (values_from (take l.i c.args.list.now)))
          (tokens_of v) ∙ ap (λ ts. c.args.out.now.tokens ++ begin_array ∷ ts) (sym more)));
      before = c.write_value.ensures.before ∙ l.invariant.before;
    }

pub write_entries-loop-i-preserved : goal.write_entries-loop-i-preserved
write_entries-loop-i-preserved t c =
    let l = c.loop-i in
    let k = c.key_at.result.now in
    let v = value_of c.value_at.result.now in
    let one = entry_read c.args.map.now l.i k v c.key_at.ensures c.value_at.ensures in
    let next = between_next c.args.map.now c.args.from l.i (k, v) one l.invariant.above in
    let more =
    ap (λ es. entry_tokens (entries_from es)) next
    ∙ entry_tokens-append (drop c.args.from (take l.i c.args.map.now)) k v in
    let named : c.key.new.self.tokens ≡ l.out.tokens ++ key k ∷ [] =
    c.in_ok-key.ensures.ok ∙ ap (λ n. l.out.tokens ++ key n ∷ []) c.get.ensures.text in
    let so_far = entry_tokens (entries_from (drop c.args.from (take l.i c.args.map.now))) in
    record {
      above = omega (arith, l.invariant.above);
      written = c.in_ok-write_value.ensures.ok
          ∙ (ap (λ ts. ts ++ tokens_of v) (named ∙ ap (λ ts. ts ++ key k ∷ []) l.invariant.written)
          ∙ (append_assoc (c.args.out.now.tokens ++ so_far) (key k ∷ []) (tokens_of v)
          ∙ (append_assoc c.args.out.now.tokens so_far (key k ∷ tokens_of v)
          ∙ ap (λ ts. c.args.out.now.tokens ++ ts) (sym more))));
      before = c.write_value.ensures.before ∙ (c.in_ok-key.ensures.room.0 ∙ l.invariant.before);
    }
