use Rattle.std.proofs.Common.{Some, option_map, ap, sym, subst, ◌∙◌}
use Rattle.doip_json.specs.Meaning.{value_of}
use Rattle.doip_json.proofs.PlainLists.{values_listed}
use Rattle.dobj_draft.specs.Draft.{elements_of, elements_in, Reads}
use Rattle.dobj_draft.proofs.listed.elements_listed.Goals as goal

pub returns-in-Some-Items : goal.returns-in-Some-Items
returns-in-Some-Items c =
    let is =
    ap (λ o. elements_in (option_map value_of o)) (c.in-Some-Items.is ∙ ap Some c.in-Some-Items.field-0-is)
    ∙ ap elements_of (values_listed c.in-Some-Items.items) in
    subst (λ r. Reads (λ v. v.items) c.elements_of_list.result r) (sym is) c.elements_of_list.ensures
