use Rattle.std.proofs.Common.{◌≡◌, ◌++◌, vec_items, ap, ap₂, ◌∙◌}
use Rattle.std.proofs.lemmas.Result.{on_ok_weaker}
use Rattle.json.specs.Print.{print}
use Rattle.doip_json.specs.Meaning.{value_of}
use Rattle.doip_json.specs.Tokens.{tokens_of}
use Rattle.doip_json.proofs.Printed.{print-tokens_of}
use Rattle.doip_json.proofs.writing.append_text.Goals as goal

pub returns-clause-ok : goal.returns-clause-ok
returns-clause-ok c =
    let v = value_of c.args.value.now in
    let before = c.write-written.ensures.before ∙ (c.new-writer.ensures.before ∙ (ap vec_items c.replace.ensures.value ∙ c.in_ok-reserve.ensures.items)) in
    let text = λ (done : c.write-written.new.out.tokens ≡ c.new-writer.result.tokens ++ tokens_of v). c.into_inner.ensures.items ∙ (ap₂ (λ b ts. b ++ print ts) before (done ∙ ap (λ ts. ts ++ tokens_of v) c.new-writer.ensures.tokens) ∙ ap (λ t. c.args.out.now.items ++ t) (print-tokens_of v)) in
    on_ok_weaker c.write-written.result text c.write-written.ensures.ok
