use Rattle.std.proofs.Common.{◌+◌, [], ◌∷◌, ◌++◌, option_map, sym, ap, ◌∙◌}
use Rattle.doip_json.specs.Meaning.{value_of}
use Rattle.schema_core.specs.Failing.{string_in}
use Rattle.schema_core.proofs.ShapeLemmas.{rest_in, none_read, rest_read}
use Rattle.schema_core.proofs.values.names_of.Goals as goal

pub returns-in_default : goal.returns-in_default
returns-in_default c =
    let l = c.loop-i in
    sym (l.invariant ∙ none_read string_in c.args.items.now l.i (value_of c.item.result.now) l.names c.item.ensures (sym c.in_default.ensures))

pub loop-i-preserved : goal.loop-i-preserved
loop-i-preserved c =
    let l = c.loop-i in
    let vs = c.args.items.now in
    let pushed = c.in_ok-push.ensures.ok ∙ ap (λ s. l.names ++ s ∷ []) c.in_ok-of.ensures in
    l.invariant ∙ (rest_read string_in vs l.i (value_of c.item.result.now) c.in-Some.name.now l.names c.item.ensures (sym c.in-Some.ensures)
    ∙ ap (λ done. option_map (λ more. done ++ more) (rest_in string_in vs (l.i + 1))) (sym pushed))
