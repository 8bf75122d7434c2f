use Rattle.std.proofs.Common.{Some, is_some, option_and_then, sym, ap, ◌∙◌, arith}
use Rattle.doip_json.specs.Meaning.{value_of}
use Rattle.schema_core.specs.Failing.{string_in}
use Rattle.schema_core.specs.Shapes.{names_in, unless_empty}
use Rattle.schema_core.proofs.ShapeLemmas.{not_empty}
use Rattle.schema_core.proofs.shape.has_types.Goals as goal

pub returns-then-len-gt0 : goal.returns-then-len-gt0
returns-then-len-gt0 c =
    c.are_names.ensures ∙ (not_empty string_in c.in-Some-Items.items (omega arith)
    ∙ ap (λ o. is_some (option_and_then unless_empty (option_and_then names_in o)))
    (ap Some (sym (ap value_of c.in-Some-Items.field-0-is)) ∙ c.in-Some-Items.ensures))
