use Rattle.std.proofs.Common.{[], ◌<◌, length, ap, sym, ◌∙◌, arith}
use Rattle.doip_segment.specs.Segments.{segment, segment_of}
use Rattle.doip_segment.specs.declared.kind.Kind.TheVariants.{Json}
use Rattle.doip_segment.proofs.PlaceLemmas.{length-segments_in, segments_in-at}
use Rattle.doip_segment.proofs.message.Message.kind.Goals as goal

pub index-requires : goal.index-requires
index-requires c =
    let size = length-segments_in c.self.inside.contents.items c.self.inside.extents.items in
    let seen = ap (λ h. length h.segments) c.self.view_is in
    omega (arith, size, seen, c.requires)

pub returns : goal.returns
returns c =
    let size = length-segments_in c.self.inside.contents.items c.self.inside.extents.items in
    let seen = ap (λ h. length h.segments) c.self.view_is in
    let here : c.args.i < length c.self.inside.extents.items = omega (arith, size, seen, c.requires) in
    let at = segments_in-at c.self.inside.contents.items c.self.inside.extents.items c.args.i c.index.result.now (segment Json []) here in
    ap (λ e. e.kind) c.index.ensures ∙ sym (ap (λ s. s.kind) at) ∙ ap (λ h. (segment_of h.segments c.args.i).kind) c.self.view_is
