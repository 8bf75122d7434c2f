-- The one spelling that the encoder writes: no white or blank byte outside contents, no leading zero, one chunk for a
-- byte segment that has bytes, and no chunk for one that has none.
use Rattle.std.specs.Prelude.{◌≢◌, ℕ, ◌^◌, ◌≤◌, ◌<◌, List, [], ◌∷◌, ◌++◌, length}
use Rattle.std.specs.List.{flat_map, AllByRecursion}
use Rattle.std.specs.Fmt.{decimal}
use Rattle.doip_segment.specs.declared.kind.Kind.{Kind}
use Rattle.doip_segment.specs.declared.kind.Kind.TheVariants as kinds
use Rattle.doip_segment.specs.Segments.{Segment, most_segments}
use Rattle.doip_segment.specs.Grammar.{BeginsText, line_feed, hash_sign, at_sign, most_digits}

-- content that a JSON segment can have on one line
abbrev pub IsPlain : List ℕ → Type 0
IsPlain [] = ⊥
IsPlain (b ∷ bs) = BeginsText b × AllByRecursion (λ x. x ≢ line_feed) bs

-- what a segment needs to be written: a JSON segment is plain, and the length of a byte segment has at most ten digits
abbrev pub CanBeWritten : Kind → List ℕ → Type 0
CanBeWritten kinds.Json bytes = IsPlain bytes
CanBeWritten kinds.Bytes bytes = length bytes < 10 ^ most_digits

-- a segment that can be written
abbrev pub IsEncodable : Segment → Type 0
IsEncodable s = CanBeWritten s.kind s.bytes

-- a message that can be written
abbrev pub AreEncodable : List Segment → Type 0
AreEncodable segments = AllByRecursion IsEncodable segments × (length segments ≤ most_segments)

-- the data of a byte segment in one chunk, if there is any
abbrev pub chunks_text : List ℕ → List ℕ
chunks_text [] = []
chunks_text (b ∷ bs) = decimal (length (b ∷ bs)) ++ line_feed ∷ [] ++ b ∷ bs ++ line_feed ∷ []

-- the canonical text of a segment of this kind and content
abbrev pub content_text : Kind → List ℕ → List ℕ
content_text kinds.Json bytes = bytes ++ line_feed ∷ hash_sign ∷ line_feed ∷ []
content_text kinds.Bytes bytes = at_sign ∷ line_feed ∷ [] ++ chunks_text bytes ++ hash_sign ∷ line_feed ∷ []

-- the canonical text of a segment
abbrev pub segment_text : Segment → List ℕ
segment_text s = content_text s.kind s.bytes

-- the canonical spelling
abbrev pub canonical : List Segment → List ℕ
canonical segments = flat_map segment_text segments ++ hash_sign ∷ line_feed ∷ []
