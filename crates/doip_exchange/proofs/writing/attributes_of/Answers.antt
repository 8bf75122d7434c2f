use Rattle.std.proofs.Common.{List, ℕ, Some, ap, ◌∙◌}
use Rattle.doip_json.specs.Value.{Value, table, entries_from}
use Rattle.doip_exchange.proofs.Kept.{some_asked}
use Rattle.doip_exchange.proofs.writing.attributes_of.Goals as goal

pub returns-in_ok-copy_map : goal.returns-in_ok-copy_map
returns-in_ok-copy_map c =
    ap (λ (es : List (List ℕ × Value)). Some (table (entries_from es))) c.in_ok-copy_map.ensures
    ∙ some_asked c.args.attributes.now (λ e. c.if-len-eq0.false (c.len.ensures.len ∙ e))
