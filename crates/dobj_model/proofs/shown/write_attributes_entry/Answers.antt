use Rattle.std.proofs.Common.{[], ◌∷◌, ◌++◌, codes, sym, ap, ◌∙◌, append-nil}
use Rattle.std.proofs.lemmas.Result.{on_ok_weaker}
use Rattle.json.specs.Token.{begin_object, end_object, key}
use Rattle.doip_json.specs.Value.{entries_from}
use Rattle.doip_json.specs.Tokens.{entry_tokens}
use Rattle.dobj_model.specs.Shown.{object_with, optional}
use Rattle.dobj_model.proofs.Written.{joined}
use Rattle.dobj_model.proofs.shown.write_attributes_entry.Goals as goal

pub returns-in_ok-key-in-Some-clause-ok : goal.returns-in_ok-key-in-Some-clause-ok
returns-in_ok-key-in-Some-clause-ok c =
    let some = ap (λ o. entry_tokens (entries_from (optional (codes "attributes") object_with o))) c.in-Some.is in
    let inner = begin_object ∷ (entry_tokens (entries_from c.in-Some.attributes) ++ end_object ∷ []) in
    on_ok_weaker c.write_map.result
    (λ done. joined c.args.out.now.tokens c.key.new.self.tokens c.write_map.new.out.tokens
    (key (codes "attributes") ∷ []) inner c.in_ok-key-in-Some.ensures.ok done
    ∙ ap (λ ts. c.args.out.now.tokens ++ ts)
    (ap (λ ts. key (codes "attributes") ∷ ts) (sym (append-nil inner)) ∙ sym some))
    c.write_map.ensures.ok
