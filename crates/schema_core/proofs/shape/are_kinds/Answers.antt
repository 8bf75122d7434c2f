use Rattle.std.proofs.Common.{is_some, sym, ap, ◌∙◌}
use Rattle.doip_json.specs.Meaning.{value_of}
use Rattle.schema_core.specs.Shapes.{kind_in}
use Rattle.schema_core.proofs.ShapeLemmas.{rest_none, rest_some}
use Rattle.schema_core.proofs.shape.are_kinds.Goals as goal

pub returns-in_default : goal.returns-in_default
returns-in_default c =
    let none = rest_none kind_in c.args.items.now c.loop-i.i (value_of c.item.result.now) c.item.ensures (sym c.in_default.ensures) in
    sym (c.loop-i.invariant ∙ ap is_some none)

pub loop-i-preserved : goal.loop-i-preserved
loop-i-preserved c =
    c.loop-i.invariant ∙ rest_some kind_in c.args.items.now c.loop-i.i (value_of c.item.result.now) _ c.item.ensures (sym c.in-Some.ensures)
