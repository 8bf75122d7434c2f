-- A message as a list of segments.
use Rattle.std.specs.Prelude.{ℕ, List, [], slice_index_or}
use Rattle.doip_segment.specs.declared.kind.Kind.{Kind}
use Rattle.doip_segment.specs.declared.kind.Kind.TheVariants as kinds

-- one segment: JSON or bytes, and its content
pub record Segment : Type 0 where
  pub kind : Kind
  pub bytes : List ℕ

-- the most segments of a message
abbrev pub most_segments : ℕ
most_segments = 2048

-- the segment of this kind and content
abbrev pub segment : Kind → List ℕ → Segment
segment kind bytes = record { kind = kind; bytes = bytes }

-- segment i of a message, counted from 0; an empty one past the end
abbrev pub segment_of : List Segment → ℕ → Segment
segment_of segments i = slice_index_or segments i (segment kinds.Json [])

-- What a message holds: its segments. The rest only the decoder names: the bytes of a segment that isn't closed yet,
-- how many bytes of the buffer are used, and how many bytes and segments fit without more memory.
pub record Held : Type 0 where
  pub segments : List Segment
  pub pending : List ℕ
  pub used : ℕ
  pub capacity : ℕ
  pub slots : ℕ
