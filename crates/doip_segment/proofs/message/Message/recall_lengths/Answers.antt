use Rattle.std.proofs.Common.{ℕ, subst, sym, length, ◌≤◌}
use Rattle.std.specs.List.{All}
use Rattle.doip_segment.specs.Segments.{Held}
use Rattle.doip_segment.specs.Place.{segments_in}
use Rattle.doip_segment.proofs.PlaceLemmas.{segments_short}
use Rattle.doip_segment.proofs.message.Message.recall_lengths.Goals as goal

pub returns : goal.returns
returns c =
    subst (λ (h : Held). All (λ s. length s.bytes ≤ h.used) h.segments) c.self.view_is
    (subst (λ (n : ℕ). All (λ s. length s.bytes ≤ n) (segments_in c.self.inside.contents.items c.self.inside.extents.items))
    (sym c.self.inside.contents.ok.0)
    (segments_short c.self.inside.contents.items c.self.inside.start c.self.inside.extents.items c.self.invariant.1 c.self.invariant.0))
