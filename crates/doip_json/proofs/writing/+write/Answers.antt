use Rattle.std.proofs.lemmas.List.{take_all}
use Rattle.std.proofs.Common.{◌≡◌, ◌+◌, Err, [], ◌∷◌, ◌++◌, take, append_assoc, sym, ap, ◌∙◌, arith}
use Rattle.json.specs.Token.{begin_array, begin_object, key}
use Rattle.doip_json.specs.Value.{values_from, entries_from}
use Rattle.doip_json.specs.Tokens.{tokens_of, item_tokens, entry_tokens}
use Rattle.doip_json.proofs.Printed.{item_tokens-append, entry_tokens-append}
use Rattle.doip_json.specs.Meaning.{value_of}
use Rattle.doip_json.proofs.Lists.{item_depth, entry_depth, entry_read, take_next}
use Rattle.doip_json.proofs.Rooms.{items_room, entries_room, key_room, item_next, entry_next, item_within, key_within, entry_within, list_total, map_total, fails_short, writes_more}
use Rattle.doip_json.proofs.writing.+write.Goals as goal

pub write_list-write-requires : goal.write_list-write-requires
write_list-write-requires t c = (omega (arith, item_depth c.args.list.now c.loop-i.i (value_of c.item.result.now) c.item.ensures), tt)

pub write_map-write-requires : goal.write_map-write-requires
write_map-write-requires t c = (omega (arith, entry_depth c.args.map.now c.loop-i.i (value_of c.value_at.result.now) c.value_at.ensures), tt)

pub write_list-loop-i-preserved : goal.write_list-loop-i-preserved
write_list-loop-i-preserved t c =
    let l = c.loop-i in
    let v = value_of c.item.result.now in
    let next = take_next c.args.list.now l.i v c.item.ensures in
    let more = ap (λ vs. item_tokens (values_from vs)) next ∙ item_tokens-append (take l.i c.args.list.now) v in
    record {
      written = c.in_ok-write.ensures.ok ∙ (ap (λ ts. ts ++ tokens_of v) l.invariant.written ∙ (append_assoc c.args.out.now.tokens (begin_array ∷ item_tokens (values_from (take l.i c.args.list.now))) (tokens_of v) ∙ ap (λ ts. c.args.out.now.tokens ++ begin_array ∷ ts) (sym more)));
      before = c.write.ensures.before ∙ l.invariant.before;
      room = let more_room = item_next c.args.list.now l.i v c.item.ensures in omega (arith, more_room, l.invariant.room, c.in_ok-write.ensures.room);
    }

pub write_map-loop-i-preserved : goal.write_map-loop-i-preserved
write_map-loop-i-preserved t c =
    let l = c.loop-i in
    let k = c.key_at.result.now in
    let v = value_of c.value_at.result.now in
    let one = entry_read c.args.map.now l.i k v c.key_at.ensures c.value_at.ensures in
    let next = take_next c.args.map.now l.i (k, v) one in
    let more = ap (λ es. entry_tokens (entries_from es)) next ∙ entry_tokens-append (take l.i c.args.map.now) k v in
    let named : c.key.new.self.tokens ≡ l.out.tokens ++ key k ∷ [] = c.in_ok-key.ensures.ok ∙ ap (λ n. l.out.tokens ++ key n ∷ []) c.get.ensures.text in
    record {
      written = c.in_ok-write.ensures.ok
          ∙ (ap (λ ts. ts ++ tokens_of v) (named ∙ ap (λ ts. ts ++ key k ∷ []) l.invariant.written)
          ∙ (append_assoc (c.args.out.now.tokens ++ begin_object ∷ entry_tokens (entries_from (take l.i c.args.map.now))) (key k ∷ []) (tokens_of v)
          ∙ (append_assoc c.args.out.now.tokens (begin_object ∷ entry_tokens (entries_from (take l.i c.args.map.now))) (key k ∷ tokens_of v)
          ∙ ap (λ ts. c.args.out.now.tokens ++ begin_object ∷ ts) (sym more))));
      before = c.write.ensures.before ∙ (c.in_ok-key.ensures.room.0 ∙ l.invariant.before);
      room = let more_room = entry_next c.args.map.now l.i k v c.key_at.ensures c.value_at.ensures in let named_room = ap key_room c.get.ensures.text in omega (arith, more_room, named_room, l.invariant.room, c.in_ok-write.ensures.room, c.in_ok-key.ensures.room.1);
    }

pub write_list-returns-in_err-write-clause-room : goal.write_list-returns-in_err-write-clause-room
write_list-returns-in_err-write-clause-room t c =
    let l = c.loop-i in
    let vs = c.args.list.now in
    let failed : c.from_residual-in_err-write.result ≡ Err c.in_err-write.field-0.0 = grind arith in
    fails_short _ _ _ _ _ failed (omega (arith, item_within vs l.i (value_of c.item.result.now) c.item.ensures, list_total vs, l.invariant.room, c.in_err-write.ensures.room))

pub write_list-returns-clause-room : goal.write_list-returns-clause-room
write_list-returns-clause-room t c =
    let l = c.loop-i in
    let vs = c.args.list.now in
    let all = ap items_room (take_all l.i vs (omega arith)) in
    writes_more c.end_array.result c.args.out.now.spare l.out.spare c.end_array.new.self.spare (items_room (take l.i vs) + 2) 2 _ l.invariant.room c.end_array.ensures.room.1 (omega (arith, all, list_total vs))

pub write_map-returns-in_err-key-clause-room : goal.write_map-returns-in_err-key-clause-room
write_map-returns-in_err-key-clause-room t c =
    let l = c.loop-i in
    let es = c.args.map.now in
    let failed : c.from_residual-in_err-key.result ≡ Err c.in_err-key.field-0.0 = grind arith in
    let named = ap key_room c.get.ensures.text in
    fails_short _ _ _ _ _ failed (omega (arith, key_within es l.i c.key_at.result.now c.key_at.ensures, named, map_total es, l.invariant.room, c.in_err-key.ensures.room.1.0))

pub write_map-returns-in_err-write-clause-room : goal.write_map-returns-in_err-write-clause-room
write_map-returns-in_err-write-clause-room t c =
    let l = c.loop-i in
    let es = c.args.map.now in
    let failed : c.from_residual-in_err-write.result ≡ Err c.in_err-write.field-0.0 = grind arith in
    let named = ap key_room c.get.ensures.text in
    let fits = entry_within es l.i c.key_at.result.now (value_of c.value_at.result.now) c.key_at.ensures c.value_at.ensures in
    fails_short _ _ _ _ _ failed (omega (arith, fits, named, map_total es, l.invariant.room, c.in_ok-key.ensures.room.1, c.in_err-write.ensures.room))

pub write_map-returns-clause-room : goal.write_map-returns-clause-room
write_map-returns-clause-room t c =
    let l = c.loop-i in
    let es = c.args.map.now in
    let all = ap entries_room (take_all l.i es (omega arith)) in
    writes_more c.end_object.result c.args.out.now.spare l.out.spare c.end_object.new.self.spare (entries_room (take l.i es) + 2) 2 _ l.invariant.room c.end_object.ensures.room.1 (omega (arith, all, map_total es))
