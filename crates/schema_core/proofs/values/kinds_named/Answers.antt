use Rattle.std.proofs.Common.{◌+◌, ◌++◌, option_map, sym, ap, ◌∙◌}
use Rattle.doip_json.specs.Meaning.{value_of}
use Rattle.schema_core.specs.Shapes.{kind_in}
use Rattle.schema_core.proofs.ShapeLemmas.{rest_in, none_read, rest_read}
use Rattle.schema_core.proofs.values.kinds_named.Goals as goal

pub returns-in_default : goal.returns-in_default
returns-in_default c =
    let l = c.loop-i in
    sym (l.invariant ∙ none_read kind_in c.args.items.now l.i (value_of c.item.result.now) l.kinds c.item.ensures (sym c.in_default.ensures))

pub loop-i-preserved : goal.loop-i-preserved
loop-i-preserved c =
    let l = c.loop-i in
    let vs = c.args.items.now in
    l.invariant ∙ (rest_read kind_in vs l.i (value_of c.item.result.now) c.in-Some.kind l.kinds c.item.ensures (sym c.in-Some.ensures)
    ∙ ap (λ done. option_map (λ more. done ++ more) (rest_in kind_in vs (l.i + 1))) (sym c.in_ok-push.ensures.ok))
