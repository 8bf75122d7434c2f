use Rattle.std.proofs.Common.{ap, subst}
use Rattle.doip_json.specs.Meaning.{value_of}
use Rattle.record_core.specs.Fields.{Finds}
use Rattle.record_core.proofs.Found.{fields_found}
use Rattle.record_core.proofs.fields.fields_of.Goals as goal

pub returns-in-Table : goal.returns-in-Table
returns-in-Table c =
    subst (Finds c.fields_of_object.result) (fields_found c.args.format (value_of c.args.json) c.in-Table.object (ap value_of c.in-Table.is)) c.fields_of_object.ensures
