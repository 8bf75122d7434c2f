use Rattle.std.proofs.Common.{Some, option_map, ap, ◌∙◌}
use Rattle.doip_json.specs.Meaning.{value_of}
use Rattle.record_core.proofs.Found.{table_found}
use Rattle.record_core.proofs.leaves.table_of.Goals as goal

pub returns-in-Some-Table : goal.returns-in-Some-Table
returns-in-Some-Table c =
    table_found (option_map value_of c.args.value) c.in-Some-Table.entries (ap (option_map value_of) (c.in-Some-Table.is ∙ ap Some c.in-Some-Table.field-0-is))
