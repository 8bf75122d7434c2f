use Rattle.std.proofs.Common.{Some, Ok, sym, ap, ◌∙◌}
use Rattle.doip_json.specs.Meaning.{value_of}
use Rattle.doip_json.proofs.PlainLists.{entries_listed}
use Rattle.dobj_draft.specs.declared.draft.ObjectField.TheVariants as fields
use Rattle.dobj_draft.specs.Draft.{optional_object}
use Rattle.dobj_draft.proofs.listed.element_attributes.Goals as goal

pub returns-in_ok-copy_map-in-Some-Table : goal.returns-in_ok-copy_map-in-Some-Table
returns-in_ok-copy_map-in-Some-Table c =
    let m = c.in-Some-Table.attributes in
    sym (ap (optional_object fields.ElementAttributes)
    (sym (ap (λ j. Some (value_of j)) c.in-Some-Table.field-0-is) ∙ c.in-Some-Table.ensures))
    ∙ ap (λ es. Ok (Some es)) (entries_listed m ∙ sym c.in_ok-copy_map-in-Some-Table.ensures)
