use Rattle.std.proofs.Common.{is_some, sym, ap, ◌∙◌, nat_lt}
use Rattle.doip_json.specs.Meaning.{value_of}
use Rattle.schema_core.specs.Shapes.{members_in}
use Rattle.schema_core.proofs.ShapeLemmas.{members_shaped}
use Rattle.schema_core.proofs.shape.has_members.Goals as goal

pub returns-in-Items : goal.returns-in-Items
returns-in-Items c =
    members_shaped c.in-Items.items _ (ap (nat_lt 0) c.len.ensures)
    ∙ ap (λ v. is_some (members_in v)) (sym (ap value_of c.in-Items.is))
