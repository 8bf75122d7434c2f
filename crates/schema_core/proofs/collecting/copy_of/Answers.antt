use Rattle.std.proofs.Common.{[], ◌∷◌, ◌++◌, sym, ap₂, ◌∙◌}
use Rattle.doip_json.proofs.Lists.{take_next}
use Rattle.schema_core.proofs.collecting.copy_of.Goals as goal

pub loop-i-preserved : goal.loop-i-preserved
loop-i-preserved c =
    let names = c.args.names.now in
    let next = take_next names c.loop-i.i c.item.result.now c.item.ensures in
    c.in_ok-push.ensures.ok
    ∙ (ap₂ (λ made name. made ++ name ∷ []) c.loop-i.invariant (c.in_ok-of.ensures ∙ c.get.ensures.text) ∙ sym next)
