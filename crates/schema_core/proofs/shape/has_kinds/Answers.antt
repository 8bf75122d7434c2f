use Rattle.std.proofs.Common.{is_some, sym, ap, ◌∙◌, arith}
use Rattle.doip_json.specs.Meaning.{value_of}
use Rattle.schema_core.specs.Shapes.{kind_in, kinds_in}
use Rattle.schema_core.proofs.ShapeLemmas.{not_empty}
use Rattle.schema_core.proofs.shape.has_kinds.Goals as goal

pub returns-then-len-gt0 : goal.returns-then-len-gt0
returns-then-len-gt0 c =
    c.are_kinds.ensures ∙ (not_empty kind_in c.in-Items.items (omega arith)
    ∙ ap (λ v. is_some (kinds_in v)) (sym (ap value_of c.in-Items.is)))
