use Rattle.std.proofs.Common.{◌≡◌, drop}
use Rattle.dobj_draft.specs.Draft.{are_tables}
use Rattle.dobj_draft.proofs.listed.are_objects.Given as goal

abbrev pub invariant-loop-i : goal.invariant-loop-i
invariant-loop-i l = are_tables l.items ≡ are_tables (drop l.i l.items)
