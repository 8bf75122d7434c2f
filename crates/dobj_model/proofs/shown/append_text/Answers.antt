use Rattle.std.proofs.Common.{◌≡◌, ◌++◌, vec_items, ap, ap₂, ◌∙◌}
use Rattle.std.proofs.lemmas.Result.{on_ok_weaker}
use Rattle.json.specs.Print.{print}
use Rattle.doip_json.specs.Tokens.{tokens_of}
use Rattle.doip_json.proofs.Printed.{print-tokens_of}
use Rattle.dobj_model.specs.Shown.{shown_form}
use Rattle.dobj_model.proofs.shown.append_text.Goals as goal

pub returns-else-is_err-clause-ok : goal.returns-else-is_err-clause-ok
returns-else-is_err-clause-ok c =
    let v = shown_form c.args.object.now in
    let before =
    c.write_shown-written.ensures.before
    ∙ (c.new-writer.ensures.before ∙ (ap vec_items c.replace.ensures.value ∙ c.in_ok-reserve.ensures.items)) in
    let shown = ap (λ o. tokens_of (shown_form o)) c.value.ensures.value in
    on_ok_weaker c.write_shown-written.result
    (λ (done : c.write_shown-written.new.out.tokens ≡ c.new-writer.result.tokens ++ tokens_of
    (shown_form c.value.result.now)).
    c.into_inner.ensures.items
    ∙ (ap₂ (λ b ts. b ++ print ts) before (done
    ∙ (ap (λ ts. ts ++ tokens_of (shown_form c.value.result.now)) c.new-writer.ensures.tokens ∙ shown))
    ∙ ap (λ t. c.args.out.now.items ++ t) (print-tokens_of v)))
    c.write_shown-written.ensures.ok
