use Rattle.std.proofs.Common.{Some, option_map, ap, sym, subst, ◌∙◌}
use Rattle.doip_json.specs.Meaning.{value_of}
use Rattle.dobj_draft.specs.Draft.{Reads}
use Rattle.dobj_draft.proofs.Drafts.{kept_of}
use Rattle.dobj_draft.proofs.properties.attributes_of.Goals as goal

pub returns-in-Some-Table : goal.returns-in-Some-Table
returns-in-Some-Table c =
    let is = ap (option_map value_of) (c.in-Some-Table.is ∙ ap Some c.in-Some-Table.field-0-is) in
    subst (λ r. Reads (λ m. m) c.keep_attributes.result r)
    (sym (kept_of (option_map value_of c.args.attributes) c.in-Some-Table.attributes is)) c.keep_attributes.ensures
