use Rattle.std.proofs.Common.{length, ap, arith}
use Rattle.doip_segment.proofs.PlaceLemmas.{length-segments_in}
use Rattle.doip_segment.proofs.message.Message.count.Goals as goal

pub returns : goal.returns
returns c =
    let size = length-segments_in c.self.inside.contents.items c.self.inside.extents.items in
    let seen = ap (λ h. length h.segments) c.self.view_is in
    omega (arith, size, seen, c.len.ensures)
