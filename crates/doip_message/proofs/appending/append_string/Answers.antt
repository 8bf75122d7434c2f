use Rattle.std.proofs.Common.{◌≡◌, ◌++◌, ◌∷◌, [], vec_items, ap, ap₂, ◌∙◌}
use Rattle.std.proofs.lemmas.Result.{on_ok_weaker}
use Rattle.json.specs.Print.{print}
use Rattle.json.specs.Token.{string}
use Rattle.doip_json.specs.Value.{text}
use Rattle.doip_json.proofs.Printed.{print-tokens_of}
use Rattle.doip_message.proofs.appending.append_string.Goals as goal

pub returns : goal.returns
returns c =
    let t = c.args.text.now in
    let before = c.write_string-written.ensures.before ∙ (c.new-writer.ensures.before ∙ ap vec_items c.replace.ensures.value) in
    let made = λ (done : c.write_string-written.new.out.tokens ≡ c.new-writer.result.tokens ++ string t ∷ []).
    c.into_inner.ensures.items
    ∙ (ap₂ (λ b ts. b ++ print ts) before (done ∙ ap (λ ts. ts ++ string t ∷ []) c.new-writer.ensures.tokens)
    ∙ ap (λ x. c.args.out.now.items ++ x) (print-tokens_of (text t))) in
    on_ok_weaker c.write_string-written.result made c.write_string-written.ensures.ok
