use Rattle.std.proofs.Common.{Some, ap, sym, ◌∙◌}
use Rattle.doip_json.specs.Value.{values_from}
use Rattle.doip_json.specs.Meaning.{value_of}
use Rattle.dobj_draft.specs.Draft.{is_access_list}
use Rattle.dobj_draft.proofs.Drafts.{texts_same}
use Rattle.dobj_draft.proofs.properties.is_list_at.Goals as goal

pub returns-in-Some-Items : goal.returns-in-Some-Items
returns-in-Some-Items c =
    texts_same c.are_texts.result (values_from c.in-Some-Items.items) c.are_texts.ensures
    ∙ (sym (ap (λ j. is_access_list (Some (value_of j))) c.in-Some-Items.field-0-is)
    ∙ ap is_access_list c.in-Some-Items.ensures)
