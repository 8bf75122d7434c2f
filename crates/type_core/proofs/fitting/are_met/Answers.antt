use Rattle.std.proofs.Common.{◌∙◌}
use Rattle.doip_json.specs.Meaning.{value_of}
use Rattle.schema_core.specs.References.{references_in}
use Rattle.type_core.proofs.FitLemmas.{met_is}
use Rattle.type_core.proofs.fitting.are_met.Goals as goal

pub returns : goal.returns
returns g c =
    c.every_reference.ensures
    ∙ met_is (g.T.Typed.is_of c.args.objects.now) (references_in c.args.schema.now (value_of c.args.content.now))
