use Rattle.std.proofs.Common.{Ok, ◌∙◌, ap, sym}
use Rattle.doip_json.specs.Value.{table, entries_from}
use Rattle.doip_json.proofs.PlainLists.{entries_listed}
use Rattle.ext_ops.specs.Hook.{with_count}
use Rattle.ext_ops.proofs.counting.count.Goals as goal

pub returns-in_ok-counted-in-Table : goal.returns-in_ok-counted-in-Table
returns-in_ok-counted-in-Table c =
    rw c.in-Table.is (ap (λ fs. Ok (table (entries_from fs)))
    (c.in_ok-counted-in-Table.ensures ∙ ap with_count (sym (entries_listed c.in-Table.entries))))
