use Rattle.std.proofs.Common.{Ok, map, ◌∙◌, ap, sym}
use Rattle.doip_json.specs.Value.{table, entries_from}
use Rattle.doip_json.proofs.PlainLists.{entries_listed}
use Rattle.ext_ops.specs.Hook.{trimmed_entry}
use Rattle.ext_ops.proofs.trimming.trim.Goals as goal

pub returns-in_ok-trimmed_entries-in-Table : goal.returns-in_ok-trimmed_entries-in-Table
returns-in_ok-trimmed_entries-in-Table c =
    rw c.in-Table.is (ap (λ fs. Ok (table (entries_from fs)))
    (c.in_ok-trimmed_entries-in-Table.ensures ∙ ap (map trimmed_entry) (sym (entries_listed c.in-Table.entries))))
