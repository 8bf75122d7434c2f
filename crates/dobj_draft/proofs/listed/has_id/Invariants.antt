use Rattle.std.proofs.Common.{◌≡◌, drop}
use Rattle.dobj_draft.specs.Draft.{is_listed}
use Rattle.dobj_draft.proofs.listed.has_id.Given as goal

abbrev pub invariant-loop-i : goal.invariant-loop-i
invariant-loop-i l = is_listed l.id l.elements ≡ is_listed l.id (drop l.i l.elements)
