use Rattle.std.proofs.Common.{◌∷◌, []}
use Rattle.std.proofs.lemmas.List.{map-append}
use Rattle.doip_json.specs.Meaning.{value_of}
use Rattle.doip_json.proofs.Soundness.{AreSound-append}
use Rattle.doip_json.proofs.value.JsonList.push.Goals as goal

pub invariant_of-self-2 : goal.invariant_of-self-2
invariant_of-self-2 c = rw (c.in_ok-push.ensures.items, map-append value_of c.self.inside.items.items (c.args.item ∷ [])) (AreSound-append _ _ c.self.invariant c.recall.ensures)
