use Rattle.std.proofs.Common.{◌≡◌, is_some}
use Rattle.doip_json.specs.Value.{values_from}
use Rattle.schema_core.specs.Failing.{string_in}
use Rattle.schema_core.specs.Shapes.{all_in}
use Rattle.schema_core.proofs.ShapeLemmas.{rest_in}
use Rattle.schema_core.proofs.shape.are_names.Given as goal

abbrev pub invariant-loop-i : goal.invariant-loop-i
invariant-loop-i l = is_some (all_in string_in (values_from l.items)) ≡ is_some (rest_in string_in l.items l.i)
