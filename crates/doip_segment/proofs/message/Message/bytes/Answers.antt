use Rattle.std.proofs.Common.{[], ◌<◌, ◌-◌, length, take, drop, ap, sym, ◌∙◌, arith, rules}
use Rattle.doip_segment.specs.Segments.{segment, segment_of}
use Rattle.doip_segment.specs.declared.kind.Kind.TheVariants.{Json}
use Rattle.doip_segment.proofs.PlaceLemmas.{length-segments_in, segments_in-at, within_at}
use Rattle.doip_segment.proofs.message.Message.bytes.Goals as goal

pub index-extent-requires : goal.index-extent-requires
index-extent-requires c =
    let size = length-segments_in c.self.inside.contents.items c.self.inside.extents.items in
    let seen = ap (λ h. length h.segments) c.self.view_is in
    omega (arith, size, seen, c.requires)

pub slice_bounds-result-count : goal.slice_bounds-result-count
slice_bounds-result-count c =
    let size = length-segments_in c.self.inside.contents.items c.self.inside.extents.items in
    let seen = ap (λ h. length h.segments) c.self.view_is in
    let here : c.args.i < length c.self.inside.extents.items = omega (arith, size, seen, c.requires) in
    let inside = within_at c.self.inside.start c.self.inside.extents.items c.args.i c.index-extent.result.now c.self.invariant.1 here in
    rw (sym c.index-extent.ensures) at inside.0

pub slice_bounds-result-start : goal.slice_bounds-result-start
slice_bounds-result-start c =
    let size = length-segments_in c.self.inside.contents.items c.self.inside.extents.items in
    let seen = ap (λ h. length h.segments) c.self.view_is in
    let here : c.args.i < length c.self.inside.extents.items = omega (arith, size, seen, c.requires) in
    let inside = within_at c.self.inside.start c.self.inside.extents.items c.args.i c.index-extent.result.now c.self.invariant.1 here in
    let high = rw (sym c.index-extent.ensures) at inside.1 in
    let low = rw (sym c.index-extent.ensures) at inside.0 in
    search (rules, high, low, c.deref.ensures, c.self.invariant.0)

pub slice_bounds-result-end : goal.slice_bounds-result-end
slice_bounds-result-end c =
    let size = length-segments_in c.self.inside.contents.items c.self.inside.extents.items in
    let seen = ap (λ h. length h.segments) c.self.view_is in
    let here : c.args.i < length c.self.inside.extents.items = omega (arith, size, seen, c.requires) in
    let inside = within_at c.self.inside.start c.self.inside.extents.items c.args.i c.index-extent.result.now c.self.invariant.1 here in
    let high = rw (sym c.index-extent.ensures) at inside.1 in
    search (rules, high, c.deref.ensures, c.self.invariant.0)

pub returns : goal.returns
returns c =
    let size = length-segments_in c.self.inside.contents.items c.self.inside.extents.items in
    let seen = ap (λ h. length h.segments) c.self.view_is in
    let here : c.args.i < length c.self.inside.extents.items = omega (arith, size, seen, c.requires) in
    let at = segments_in-at c.self.inside.contents.items c.self.inside.extents.items c.args.i c.index-extent.result.now (segment Json []) here in
    ap (λ contents. take (c.index-extent.result.now.end - c.index-extent.result.now.start) (drop c.index-extent.result.now.start contents)) c.deref.ensures.value
    ∙ ap (λ e. take (e.end - e.start) (drop e.start c.self.inside.contents.items)) c.index-extent.ensures
    ∙ sym (ap (λ s. s.bytes) at)
    ∙ ap (λ h. (segment_of h.segments c.args.i).bytes) c.self.view_is
