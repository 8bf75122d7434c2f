use Rattle.std.proofs.Common.{◌≡◌, ℕ, ◌<◌, codes}
use Rattle.std.specs.declared.cmp.Ordering.TheVariants.{Less}
use Rattle.doip_json.specs.Places.{key_of}
use Rattle.doip_json.proofs.Ascending.{compared}
use Rattle.dobj_model.proofs.shown.place_of_metadata.Given as goal

abbrev pub invariant-loop-i : goal.invariant-loop-i
invariant-loop-i l = (j : ℕ) → j < l.i → compared (key_of l.attributes j) (codes "metadata") ≡ Less
