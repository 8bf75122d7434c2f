use Rattle.std.proofs.Common.{ap, ◌∙◌}
use Rattle.doip_segment.specs.Place.{segments_in}
use Rattle.doip_segment.proofs.PlaceLemmas.{segments_stay}
use Rattle.doip_segment.proofs.message.Message.append.Goals as goal

pub returns-clause-segments : goal.returns-clause-segments
returns-clause-segments c =
    ap (λ contents. segments_in contents c.self.inside.extents.items) c.in-Ok.ensures.items
    ∙ segments_stay c.self.inside.contents.items c.args.bytes.now c.self.inside.start c.self.inside.extents.items c.self.invariant.1 c.self.invariant.0
    ∙ ap (λ h. h.segments) c.self.view_is
