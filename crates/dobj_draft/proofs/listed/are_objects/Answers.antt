use Rattle.std.proofs.Common.{true, false, ◌&&◌, ◌≡◌, ◌+◌, drop, sym, ap, ◌∙◌}
use Rattle.doip_json.specs.Meaning.{value_of}
use Rattle.dobj_draft.specs.Draft.{is_table, are_tables}
use Rattle.dobj_model.proofs.Between.{drop_here}
use Rattle.dobj_draft.proofs.listed.are_objects.Goals as goal

pub returns-then-not-is_object : goal.returns-then-not-is_object
returns-then-not-is_object c =
    let vs = c.args.items.now in
    let here = ap are_tables (drop_here vs c.loop-i.i (value_of c.item.result.now) c.item.ensures) in
    let no : is_table (value_of c.item.result.now) ≡ false = sym c.if-not-is_object.ensures in
    sym (c.loop-i.invariant ∙ (here ∙ ap (λ b. b && are_tables (drop (c.loop-i.i + 1) vs)) no))

pub loop-i-preserved : goal.loop-i-preserved
loop-i-preserved c =
    let vs = c.args.items.now in
    let here = ap are_tables (drop_here vs c.loop-i.i (value_of c.item.result.now) c.item.ensures) in
    let yes : is_table (value_of c.item.result.now) ≡ true = sym c.if-not-is_object.ensures in
    c.loop-i.invariant ∙ (here ∙ ap (λ b. b && are_tables (drop (c.loop-i.i + 1) vs)) yes)
