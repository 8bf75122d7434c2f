use Rattle.std.proofs.Common.{sym, ap, ◌∙◌, arith}
use Rattle.doip_json.specs.Meaning.{value_of}
use Rattle.schema_core.specs.Shapes.{members_in}
use Rattle.schema_core.proofs.ShapeLemmas.{members_listed}
use Rattle.schema_core.proofs.values.list_of.Goals as goal

pub returns-then-len-gt0 : goal.returns-then-len-gt0
returns-then-len-gt0 c = members_listed c.in-Items.items (omega arith) ∙ ap (λ v. members_in (value_of v)) (sym c.in-Items.is)
