use Rattle.std.proofs.Common.{option_and_then, sym, ap, ◌∙◌, arith}
use Rattle.std.proofs.lemmas.Option.{slice_get_past}
use Rattle.doip_json.specs.Value.{values_from}
use Rattle.doip_json.specs.Meaning.{value_of}
use Rattle.doip_json.specs.Pointer.{item_of, named_by}
use Rattle.doip_json.proofs.Lists.{item_of-values_from}
use Rattle.doip_json.proofs.pointer.step.Goals as goal

pub returns-then-position-len : goal.returns-then-position-len
returns-then-position-len c =
    let i = c.in-Some.position in let vs = c.in-Items.list in
    sym (ap (λ j. named_by c.args.token.now (value_of j)) c.in-Items.is ∙ (ap (option_and_then (λ n. item_of n (values_from vs))) (sym c.in-Some.ensures) ∙ (item_of-values_from vs i ∙ c.item.ensures)))

pub returns-else-position-len : goal.returns-else-position-len
returns-else-position-len c =
    let i = c.in-Some.position in let vs = c.in-Items.list in
    sym (ap (λ j. named_by c.args.token.now (value_of j)) c.in-Items.is ∙ (ap (option_and_then (λ n. item_of n (values_from vs))) (sym c.in-Some.ensures) ∙ (item_of-values_from vs i ∙ slice_get_past vs i (omega arith))))
