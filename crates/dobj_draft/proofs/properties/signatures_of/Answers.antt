use Rattle.std.proofs.Common.{Some, option_map, ap, ◌∙◌, arith}
use Rattle.doip_json.specs.Meaning.{value_of}
use Rattle.dobj_draft.specs.Draft.{unsigned}
use Rattle.dobj_draft.proofs.Drafts.{signed}
use Rattle.dobj_draft.proofs.properties.signatures_of.Goals as goal

pub returns-in-Some-Items : goal.returns-in-Some-Items
returns-in-Some-Items c =
    ap (λ o. unsigned (option_map value_of o)) (c.in-Some-Items.is ∙ ap Some c.in-Some-Items.field-0-is)
    ∙ signed c.in-Some-Items.items (omega (arith, c.if-len-eq0.false, c.len.ensures))
