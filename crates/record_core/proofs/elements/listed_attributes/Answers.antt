use Rattle.std.proofs.Common.{Some, sym, ap, ◌∙◌}
use Rattle.doip_json.specs.Meaning.{value_of}
use Rattle.doip_json.proofs.PlainLists.{entries_listed}
use Rattle.record_core.specs.Fields.{table_if}
use Rattle.record_core.proofs.elements.listed_attributes.Goals as goal

pub returns-in_ok-copy_map-in-Some-Table : goal.returns-in_ok-copy_map-in-Some-Table
returns-in_ok-copy_map-in-Some-Table c =
    let m = c.in-Some-Table.attributes in
    sym (ap table_if (sym (ap (λ j. Some (value_of j)) c.in-Some-Table.field-0-is) ∙ c.in-Some-Table.ensures))
    ∙ ap (λ es. Some (Some es)) (entries_listed m ∙ sym c.in_ok-copy_map-in-Some-Table.ensures)
