use Rattle.std.proofs.Common.{◌≡◌, Some, option_and_then, refl, sym, ap, ◌∙◌, arith, below_more, true≢false}
use Rattle.std.proofs.lemmas.Str.Pattern.{contains_char}
use Rattle.doip_json.specs.Value.{entries_from}
use Rattle.doip_json.specs.Meaning.{value_of}
use Rattle.doip_json.specs.Look.{entry_of}
use Rattle.doip_json.specs.Pointer.{unescaped}
use Rattle.doip_json.proofs.Found.{found, none_named, key_from_keys}
use Rattle.doip_json.proofs.Tokens.{unescaped-plain}
use Rattle.doip_json.proofs.pointer.named.Goals as goal

pub returns-then-not-contains : goal.returns-then-not-contains
returns-then-not-contains c =
    let token = c.args.token.now in
    let finds = contains_char 126 token c.contains.result c.contains.ensures.cases (omega arith) in
    let plain = unescaped-plain token (λ i h e. true≢false (sym (finds.1 i h e) ∙ c.if-not-contains.true)) in
    c.get.ensures ∙ ap (option_and_then (λ key. entry_of key (entries_from c.args.map.now))) (sym plain)

pub returns-then-writes : goal.returns-then-writes
returns-then-writes c =
    let i = c.loop-i.i in
    let k = c.key_at.result.now in
    let v = value_of c.value_at.result.now in
    let token = c.as_bytes.ensures.value in
    let key = c.as_bytes-in-loop-i.ensures.value ∙ c.get-in-loop-i.ensures.text in
    let written : unescaped c.args.token.now ≡ Some k = ap unescaped (sym token) ∙ (c.if-writes.ensures.0 refl ∙ ap Some key) in
    let one = found c.args.map.now k i v c.len-i-end.ensures.ascending (omega arith) (key_from_keys c.args.map.now i k c.key_at.ensures) c.value_at.ensures in
    sym (ap (option_and_then (λ key. entry_of key (entries_from c.args.map.now))) written ∙ one)

pub loop-i-preserved : goal.loop-i-preserved
loop-i-preserved c =
    let i = c.loop-i.i in
    let k = c.key_at.result.now in
    let token = c.as_bytes.ensures.value in
    let key = c.as_bytes-in-loop-i.ensures.value ∙ c.get-in-loop-i.ensures.text in
    below_more _ _ c.loop-i.invariant (λ same. true≢false (sym (c.if-writes.ensures.1 (ap unescaped token ∙ (same ∙ ap Some (key_from_keys c.args.map.now i k c.key_at.ensures ∙ sym key))))))

pub returns : goal.returns
returns c = sym (none_named c.args.map.now (unescaped c.args.token.now) (λ j h. c.loop-i.invariant j (omega arith)))
