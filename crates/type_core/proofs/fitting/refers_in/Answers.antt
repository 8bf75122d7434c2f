use Rattle.std.proofs.Common.{◌∙◌, ap, not}
use Rattle.doip_json.specs.Meaning.{value_of}
use Rattle.schema_core.specs.References.{references_in}
use Rattle.type_core.proofs.FitLemmas.{other_is}
use Rattle.type_core.proofs.fitting.refers_in.Goals as goal

pub returns : goal.returns
returns c =
    ap not c.every_reference.ensures
    ∙ other_is c.args.id.now (references_in c.args.schema.now (value_of c.args.content.now))
