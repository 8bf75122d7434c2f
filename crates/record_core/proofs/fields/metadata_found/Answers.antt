use Rattle.std.proofs.Common.{Some, option_map, ap, ◌∙◌, subst}
use Rattle.doip_json.specs.Meaning.{value_of}
use Rattle.record_core.specs.Fields.{Finds}
use Rattle.record_core.proofs.Found.{metadata_found}
use Rattle.record_core.proofs.fields.metadata_found.Goals as goal

pub returns-in-Some-Table : goal.returns-in-Some-Table
returns-in-Some-Table c =
    let is = ap (option_map value_of) (c.in-Some-Table.is ∙ ap Some c.in-Some-Table.field-0-is) in
    subst (Finds c.metadata_of_object.result) (metadata_found c.args.format (option_map value_of c.args.value) c.in-Some-Table.entries is) c.metadata_of_object.ensures
