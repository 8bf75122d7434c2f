use Rattle.std.proofs.Common.{◌≡◌, suc, ◌+◌, ◌*◌, drop}
use Rattle.dobj_draft.specs.Draft.{payloads}
use Rattle.dobj_draft.proofs.payloads.with_payloads.Given as goal

abbrev pub invariant-loop-pair : goal.invariant-loop-pair
invariant-loop-pair l =
    payloads 2 (drop 1 l.parts.segments) l.fn.elements.items ≡ payloads (suc (2 * l.pair + 1))
    (drop (2 * l.pair + 1) l.parts.segments) l.elements.items
