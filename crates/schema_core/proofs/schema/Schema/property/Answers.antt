use Rattle.std.proofs.Common.{option_and_then, ap, ◌∙◌}
use Rattle.std.specs.List.{slice_get}
use Rattle.schema_core.specs.Rules.{property_of}
use Rattle.schema_core.proofs.PropertyLemmas.{at_place, lent_at}
use Rattle.schema_core.proofs.schema.Schema.property.Goals as goal

pub returns-in-Some : goal.returns-in-Some
returns-in-Some c =
    let keys = c.self.inside.keys.keys in
    let rs = c.self.inside.properties.items in
    lent_at _ c.deref.result.now c.in-Some.place c.get.result c.get.ensures.lookup.1 c.get.ensures.lookup.3
    ∙ (ap (λ xs. slice_get xs c.in-Some.place) c.deref.ensures.value
    ∙ (ap (option_and_then (slice_get rs)) c.in-Some.ensures.index
    ∙ (at_place c.args.key.now keys rs c.self.invariant ∙ ap (property_of c.args.key.now) c.self.view_is)))

pub returns-in-None : goal.returns-in-None
returns-in-None c =
    let keys = c.self.inside.keys.keys in
    let rs = c.self.inside.properties.items in
    ap (option_and_then (slice_get rs)) c.in-None.ensures.index
    ∙ (at_place c.args.key.now keys rs c.self.invariant ∙ ap (property_of c.args.key.now) c.self.view_is)
