use Rattle.std.proofs.Common.{◌≢◌, [], ◌∷◌, ◌++◌, map, codes, sym, ap, ◌∙◌}
use Rattle.std.proofs.lemmas.Result.{on_ok_weaker}
use Rattle.json.specs.Token.{begin_array, end_array, key}
use Rattle.doip_json.specs.Value.{values_from}
use Rattle.doip_json.specs.Tokens.{item_tokens}
use Rattle.dobj_model.specs.Shown.{element_form}
use Rattle.dobj_model.proofs.Written.{joined, elements_tokens}
use Rattle.dobj_model.proofs.shown.write_elements_entry.Goals as goal

pub returns-clause-ok : goal.returns-clause-ok
returns-clause-ok c =
    let some : c.args.elements.now ≢ [] = λ none. absurd (let no = c.if-is_empty.ensures.1 none in cc) in
    let same =
    ap (λ es. key (codes "elements") ∷ begin_array
    ∷ (item_tokens (values_from (map element_form es)) ++ end_array ∷ [])) c.as_slice.ensures.items in
    let listed = begin_array ∷ (item_tokens (values_from (map element_form c.as_slice.result.now)) ++ end_array ∷ []) in
    on_ok_weaker c.write_elements.result
    (λ done. joined c.args.out.now.tokens c.key.new.self.tokens c.write_elements.new.out.tokens
    (key (codes "elements") ∷ []) listed c.in_ok-key.ensures.ok done
    ∙ ap (λ ts. c.args.out.now.tokens ++ ts) (same ∙ sym (elements_tokens c.args.elements.now some)))
    c.write_elements.ensures.ok
