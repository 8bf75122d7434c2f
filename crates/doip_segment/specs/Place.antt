-- Where a message keeps the segments in its one buffer.
use Rattle.std.specs.Prelude.{ℕ, ◌≤◌, List, [], ◌∷◌, slice_range}
use Rattle.doip_segment.specs.declared.message.Extent.{Extent}
use Rattle.doip_segment.specs.Segments.{Segment, segment}

-- the segment whose content lies between these places of the buffer
abbrev pub segment_at : List ℕ → Extent → Segment
segment_at contents e = segment e.kind (slice_range contents e.start e.end)

-- all segments of the table
abbrev pub segments_in : List ℕ → List Extent → List Segment
segments_in contents [] = []
segments_in contents (e ∷ es) = segment_at contents e ∷ segments_in contents es

-- each segment lies within the first bytes of the buffer
abbrev pub AreWithin : ℕ → List Extent → Type 0
AreWithin bound [] = Unit {0}
AreWithin bound (e ∷ es) = (e.start ≤ e.end) × (e.end ≤ bound) × AreWithin bound es
