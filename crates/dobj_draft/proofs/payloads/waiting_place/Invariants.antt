use Rattle.std.proofs.Common.{◌≡◌, ℕ, List, ◌++◌, drop, take}
use Rattle.dobj_draft.specs.Draft.{is_waiting, filled}
use Rattle.dobj_draft.proofs.payloads.waiting_place.Given as goal

abbrev pub invariant-loop-i : goal.invariant-loop-i
invariant-loop-i l = record {
  waits : is_waiting l.id l.elements ≡ is_waiting l.id (drop l.i l.elements);
  fills : (bytes : List ℕ)
      → filled l.id bytes l.elements ≡ take l.i l.elements ++ filled l.id bytes (drop l.i l.elements);
}
