-- Messages in a stream of bytes: spellings within the limits, the messages that a stream begins with, and where the
-- rest of it breaks.
use Rattle.std.specs.Prelude.{◌≡◌, ◌≢◌, ℕ, ◌+◌, ◌-◌, ◌^◌, ◌≤◌, ◌<◌, ◌⊎◌, List, [], ◌∷◌, ◌++◌, length, min, false}
use Rattle.std.specs.List.{flat_map, AllByRecursion}
use Rattle.doip_segment.specs.declared.kind.Kind.{Kind}
use Rattle.doip_segment.specs.declared.kind.Kind.TheVariants as kinds
use Rattle.doip_segment.specs.declared.outcome.Limits.{Limits}
use Rattle.doip_segment.specs.declared.outcome.Reason.{Reason}
use Rattle.doip_segment.specs.declared.outcome.Reason.TheVariants.{Marker, Length, ChunkEnd, TooMany, JsonTooLong, TooLong}
use Rattle.doip_segment.specs.Segments.{Segment, most_segments}
use Rattle.doip_segment.specs.Grammar.{hash_sign, at_sign, IsBlank, IsWhite, BeginsText, NoHash, IsLength, Chunk, IsChunk, chunk_bytes, ending, Part, IsPart, part_bytes, IsSpelling}

-- the largest number of bytes that a limit lets a message have
abbrev pub most_total : ℕ
most_total = 67108864

-- a JSON segment is no longer than its limit
abbrev pub HoldsLimit : Limits → Kind → List ℕ → Type 0
HoldsLimit limits kinds.Json bytes = length bytes ≤ limits.json
HoldsLimit limits kinds.Bytes bytes = Unit {0}

-- the three limits, as facts of their own
pub record IsWithin (limits : Limits) (bytes : List ℕ) (message : List Segment) : Type 0 where
  pub total : length bytes ≤ limits.total
  pub count : length message ≤ most_segments
  pub json : AllByRecursion (λ s. HoldsLimit limits s.kind s.bytes) message

-- The bytes are a spelling of the message, and the limits hold.
pub record Spelt (limits : Limits) (bytes : List ℕ) (message : List Segment) : Type 0 where
  pub spelling : IsSpelling bytes message
  pub within : IsWithin limits bytes message

-- no prefix of the bytes is a spelling within the limits
abbrev pub NothingSpelt : Limits → List ℕ → Type 0
NothingSpelt limits bytes =
    (prefix after : List ℕ) (message : List Segment) → bytes ≡ prefix ++ after → Spelt limits prefix message → ⊥

-- The bytes are spellings of these messages, in order, and then a rest of which no prefix is a spelling.
abbrev pub Framed : Limits → List ℕ → List (List Segment) → List ℕ → Type 0
Framed limits bytes [] rest = (bytes ≡ rest) × NothingSpelt limits rest
Framed limits bytes (message ∷ messages) rest =
    (prefix after : List ℕ) × Spelt limits prefix message × (bytes ≡ prefix ++ after)
    × Framed limits after messages rest

-- The prefix ends in white bytes after so many segments: a segment or the end of the message is due.
pub record AtSegment (prefix : List ℕ) (count : ℕ) : Type 0 where
  pub parts : List Part
  pub white : List ℕ
  pub are_parts : AllByRecursion IsPart parts
  pub are_white : AllByRecursion IsWhite white
  pub counted : length parts ≡ count
  pub is : prefix ≡ flat_map part_bytes parts ++ white

-- what can be the first bytes of a JSON segment, none of which is a `#` at the beginning of a line
abbrev pub OpensText : List ℕ → Type 0
OpensText [] = ⊥
OpensText (b ∷ bs) = BeginsText b × NoHash false (b ∷ bs)

-- The prefix ends in these first bytes of a JSON segment.
pub record InText (prefix text : List ℕ) : Type 0 where
  pub parts : List Part
  pub white : List ℕ
  pub are_parts : AllByRecursion IsPart parts
  pub are_white : AllByRecursion IsWhite white
  pub opens : OpensText text
  pub is : prefix ≡ flat_map part_bytes parts ++ white ++ text

-- The prefix ends in a byte segment, in these bytes after its whole chunks.
pub record InBytes (prefix inner : List ℕ) : Type 0 where
  pub parts : List Part
  pub white : List ℕ
  pub blanks : List ℕ
  pub chunks : List Chunk
  pub are_parts : AllByRecursion IsPart parts
  pub are_white : AllByRecursion IsWhite white
  pub are_blank : AllByRecursion IsBlank blanks
  pub are_chunks : AllByRecursion IsChunk chunks
  pub is : prefix
      ≡ flat_map part_bytes parts ++ white ++ at_sign ∷ [] ++ ending blanks ++ flat_map chunk_bytes chunks ++ inner

-- After the prefix a chunk or the `#` of a byte segment is due.
abbrev pub ChunkIsDue : List ℕ → Type 0
ChunkIsDue prefix = InBytes prefix []

-- The prefix ends in a chunk's digits and blanks.
abbrev pub AfterDigits : List ℕ → Type 0
AfterDigits prefix =
    (digits blanks : List ℕ) × IsLength digits × AllByRecursion IsBlank blanks × InBytes prefix (digits ++ blanks)

-- The prefix ends in a chunk's data.
abbrev pub AfterData : List ℕ → Type 0
AfterData prefix =
    (chunk : Chunk) × IsChunk chunk × InBytes prefix (chunk.digits ++ ending chunk.blanks ++ chunk.content)

-- The byte after the prefix has the number total + 1.
abbrev pub IsTooLong : Limits → List ℕ → Type 0
IsTooLong limits prefix = length prefix ≡ limits.total

-- The byte has the number json + 2 in its JSON segment, and none of these is a `#` at the beginning of a line.
abbrev pub IsJsonTooLong : Limits → List ℕ → ℕ → Type 0
IsJsonTooLong limits prefix byte = (text : List ℕ) × (length text ≡ limits.json + 2) × InText (prefix ++ byte ∷ []) text

-- The byte is the first of segment 2,049.
abbrev pub IsTooMany : List ℕ → ℕ → Type 0
IsTooMany prefix byte = AtSegment prefix most_segments × ¬ IsWhite byte × (byte ≢ hash_sign)

-- No spelling goes on so, whatever the limits are.
abbrev pub IsUngrammatical : List ℕ → ℕ → Type 0
IsUngrammatical prefix byte =
    (after : List ℕ) (message : List Segment) → IsSpelling (prefix ++ byte ∷ after) message → ⊥

-- the grammar alone is broken here
pub record BreaksGrammar (limits : Limits) (prefix : List ℕ) (byte : ℕ) : Type 0 where
  pub total : ¬ IsTooLong limits prefix
  pub json : ¬ IsJsonTooLong limits prefix byte
  pub count : ¬ IsTooMany prefix byte
  pub grammar : IsUngrammatical prefix byte

-- The byte after the prefix is a fault, and this is the reason: that of the first of the four conditions that holds.
abbrev pub IsFault : Limits → List ℕ → ℕ → Reason → Type 0
IsFault limits prefix byte TooLong = IsTooLong limits prefix
IsFault limits prefix byte JsonTooLong = ¬ IsTooLong limits prefix × IsJsonTooLong limits prefix byte
IsFault limits prefix byte TooMany =
    ¬ IsTooLong limits prefix × ¬ IsJsonTooLong limits prefix byte × IsTooMany prefix byte
IsFault limits prefix byte ChunkEnd = BreaksGrammar limits prefix byte × AfterData prefix
IsFault limits prefix byte Length =
    BreaksGrammar limits prefix byte × ¬ AfterData prefix × (ChunkIsDue prefix ⊎ AfterDigits prefix)
IsFault limits prefix byte Marker =
    BreaksGrammar limits prefix byte × ¬ AfterData prefix × ¬ ChunkIsDue prefix × ¬ AfterDigits prefix

-- The bytes break at this place, counted from 1, for this reason, and at no place before.
pub record Broken (limits : Limits) (bytes : List ℕ) (place : ℕ) (reason : Reason) : Type 0 where
  pub prefix : List ℕ
  pub byte : ℕ
  pub after : List ℕ
  pub is : bytes ≡ prefix ++ byte ∷ after
  pub at : place ≡ length prefix + 1
  pub fault : IsFault limits prefix byte reason
  pub first : (before : List ℕ) (b : ℕ) (rest : List ℕ) (other : Reason) → bytes ≡ before ++ b ∷ rest
      → length before < length prefix → IsFault limits before b other → ⊥

-- the bytes break nowhere
abbrev pub IsUnbroken : Limits → List ℕ → Type 0
IsUnbroken limits bytes = (place : ℕ) (reason : Reason) → Broken limits bytes place reason → ⊥

-- No prefix of the bytes is a message, and they break nowhere: more bytes are needed.
pub record IsUnfinished (limits : Limits) (bytes : List ℕ) : Type 0 where
  pub unspelt : NothingSpelt limits bytes
  pub unbroken : IsUnbroken limits bytes

-- a place in a session's bytes, or a number of them, as 64 bits hold it: at most the greatest such number
abbrev pub saturated : ℕ → ℕ
saturated n = min n (2 ^ 64 - 1)

-- The rest of a session's bytes breaks for this reason, at this place of the session, counted from 1 at its first byte.
pub record BreaksSession (limits : Limits) (bytes rest : List ℕ) (place : ℕ) (reason : Reason) : Type 0 where
  pub before : ℕ
  pub at : ℕ
  pub all : before + length rest ≡ length bytes
  pub breaks : Broken limits rest at reason
  pub is : place ≡ saturated (before + at)
