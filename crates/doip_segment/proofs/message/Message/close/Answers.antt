use Rattle.std.proofs.Common.{◌≤◌, ◌≡◌, length, [], ◌∷◌, ◌++◌, ap, sym, ◌∙◌, subst, arith}
use Rattle.doip_segment.specs.Segments.{segment}
use Rattle.doip_segment.specs.Place.{segments_in, AreWithin}
use Rattle.doip_segment.proofs.PlaceLemmas.{length-segments_in, closed_segments, AreWithin-more, AreWithin-append}
use Rattle.doip_segment.proofs.message.Message.close.Goals as goal

pub unreachable-requires : goal.unreachable-requires
unreachable-requires c =
    let size = length-segments_in c.self.inside.contents.items c.self.inside.extents.items in
    let seen = ap (λ h. length h.segments) c.self.view_is in
    let slots = ap (λ h. h.slots) c.self.view_is in
    omega (arith, size, seen, slots, c.requires, c.in-Err.ensures.full)

pub invariant_of-self : goal.invariant_of-self
invariant_of-self c =
    let high : c.self.inside.start ≤ c.len-end.result = omega (arith, c.self.invariant.0, c.len-end.ensures) in
    let old = AreWithin-more c.self.inside.start c.len-end.result c.self.inside.extents.items high c.self.invariant.1 in
    let all = AreWithin-append c.len-end.result c.self.inside.extents.items (record { kind = c.args.kind; start = c.self.inside.start; end = c.len-end.result }) old high (omega arith) in
    (omega (arith, c.len-end.ensures), subst (AreWithin c.len-end.result) (sym c.in-Ok.ensures.items) all)

pub returns-clause-segments : goal.returns-clause-segments
returns-clause-segments c =
    let end : c.len-end.result ≡ length c.self.inside.contents.items = omega (arith, c.len-end.ensures) in
    ap (segments_in c.self.inside.contents.items) c.in-Ok.ensures.items
    ∙ closed_segments c.self.inside.contents.items c.self.inside.extents.items c.args.kind c.self.inside.start c.len-end.result end
    ∙ ap (λ h. h.segments ++ segment c.args.kind h.pending ∷ []) c.self.view_is
