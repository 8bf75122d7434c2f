use Rattle.std.proofs.Common.{◌∷◌, ◌++◌, map, take, append_assoc, sym, ap, ◌∙◌}
use Rattle.json.specs.Token.{begin_array}
use Rattle.doip_json.specs.Value.{values_from}
use Rattle.doip_json.specs.Tokens.{tokens_of, item_tokens}
use Rattle.doip_json.proofs.Printed.{item_tokens-append}
use Rattle.dobj_model.specs.Shown.{element_form}
use Rattle.dobj_model.proofs.Forms.{elements_next}
use Rattle.dobj_model.proofs.shown.write_elements.Goals as goal

pub loop-i-preserved : goal.loop-i-preserved
loop-i-preserved c =
    let l = c.loop-i in
    let es = c.args.elements.now in
    let v = element_form c.index-elements-i.result in
    let next = elements_next es l.i c.index-elements-i.result c.index-elements-i.is c.loop-i-test.true in
    let more = ap (λ vs. item_tokens (values_from vs)) next ∙ item_tokens-append (map element_form (take l.i es)) v in
    record {
      written = c.in_ok-write_element.ensures.ok ∙ (ap (λ ts. ts ++ tokens_of v) l.invariant.written
          ∙ (append_assoc c.args.out.now.tokens (begin_array ∷ item_tokens
          (values_from (map element_form (take l.i es)))) (tokens_of v)
          ∙ ap (λ ts. c.args.out.now.tokens ++ begin_array ∷ ts) (sym more)));
      before = c.write_element.ensures.before ∙ l.invariant.before;
    }
