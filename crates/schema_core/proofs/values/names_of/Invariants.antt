use Rattle.std.proofs.Common.{◌≡◌, ◌++◌, option_map}
use Rattle.doip_json.specs.Value.{values_from}
use Rattle.schema_core.specs.Failing.{string_in}
use Rattle.schema_core.specs.Shapes.{all_in}
use Rattle.schema_core.proofs.ShapeLemmas.{rest_in}
use Rattle.schema_core.proofs.values.names_of.Given as goal

abbrev pub invariant-loop-i : goal.invariant-loop-i
invariant-loop-i l = all_in string_in (values_from l.items) ≡ option_map (λ more. l.names ++ more) (rest_in string_in l.items l.i)
