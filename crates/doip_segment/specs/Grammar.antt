-- The grammar of a message, on whole lists of bytes:
--   message = { white* segment } white* "#" ending
--   segment = text LF "#" ending              a JSON segment, its content is the text
--           | "@" ending { chunk } "#" ending   a byte segment, its content is the data joined
--   chunk   = digits ending data LF
--   ending  = blank* LF
-- The spelling of segments is this project's own, after the segments of DOIP 2.0.
use Rattle.std.specs.Prelude.{◌≡◌, ◌≢◌, ℕ, ◌+◌, ◌-◌, ◌*◌, ◌≤◌, ◌<◌, ◌⊎◌, List, [], ◌∷◌, ◌++◌, length, map, Bool, true, false, ◌==◌}
use Rattle.std.specs.List.{flat_map, AllByRecursion}
use Rattle.doip_segment.specs.declared.kind.Kind.TheVariants as kinds
use Rattle.doip_segment.specs.Segments.{Segment, segment}

-- the byte of a line feed, which ends each line of the grammar
abbrev pub line_feed : ℕ
line_feed = 10

-- the byte of a space
abbrev pub space : ℕ
space = 32

-- the byte of a tab
abbrev pub tab : ℕ
tab = 9

-- the byte of a carriage return
abbrev pub carriage_return : ℕ
carriage_return = 13

-- the byte of `#`, which ends segments and messages
abbrev pub hash_sign : ℕ
hash_sign = 35

-- the byte of `@`, which begins a byte segment
abbrev pub at_sign : ℕ
at_sign = 64

-- the bytes of the digits 0 and 9
abbrev pub digit_zero : ℕ
digit_zero = 48

abbrev pub digit_nine : ℕ
digit_nine = 57

-- the most digits of a chunk's length
abbrev pub most_digits : ℕ
most_digits = 10

-- space, tab and CR
abbrev pub IsBlank : ℕ → Type 0
IsBlank b = (b ≡ space) ⊎ (b ≡ tab) ⊎ (b ≡ carriage_return)

-- blanks, and LF
abbrev pub IsWhite : ℕ → Type 0
IsWhite b = IsBlank b ⊎ (b ≡ line_feed)

-- an ASCII digit
abbrev pub IsDigit : ℕ → Type 0
IsDigit b = (digit_zero ≤ b) × (b ≤ digit_nine)

-- the number that digits write, after digits that wrote the first number
abbrev pub value_after : ℕ → List ℕ → ℕ
value_after n [] = n
value_after n (b ∷ bs) = value_after (10 * n + (b - digit_zero)) bs

-- the number that digits write
abbrev pub value_of : List ℕ → ℕ
value_of digits = value_after 0 digits

-- blanks and a line feed
abbrev pub ending : List ℕ → List ℕ
ending blanks = blanks ++ line_feed ∷ []

-- The first byte of a JSON segment's text is neither white nor `#` nor `@`.
abbrev pub BeginsText : ℕ → Type 0
BeginsText b = ¬ IsWhite b × (b ≢ hash_sign) × (b ≢ at_sign)

-- No `#` stands at the beginning of a line; the test says whether a line begins with the first byte.
abbrev pub NoHash : Bool → List ℕ → Type 0
NoHash line [] = Unit {0}
NoHash line (b ∷ bs) = (line ≡ true → b ≢ hash_sign) × NoHash (b == line_feed) bs

-- Text has at least one byte, and no line feed in it is followed by `#`.
abbrev pub IsText : List ℕ → Type 0
IsText [] = ⊥
IsText (b ∷ bs) = BeginsText b × NoHash false (b ∷ bs)

-- the digits of a length: 1 to 10
pub record IsLength (digits : List ℕ) : Type 0 where
  pub are_digits : AllByRecursion IsDigit digits
  pub some : 0 < length digits
  pub most : length digits ≤ most_digits

-- a chunk's digits, the blanks after them, and its data
pub record Chunk : Type 0 where
  pub digits : List ℕ
  pub blanks : List ℕ
  pub content : List ℕ

-- the digits write the number of bytes of the data
pub record IsChunk (chunk : Chunk) : Type 0 where
  pub is_length : IsLength chunk.digits
  pub are_blank : AllByRecursion IsBlank chunk.blanks
  pub size : value_of chunk.digits ≡ length chunk.content

-- a chunk as bytes
abbrev pub chunk_bytes : Chunk → List ℕ
chunk_bytes chunk = chunk.digits ++ ending chunk.blanks ++ chunk.content ++ line_feed ∷ []

-- the data of a chunk
abbrev pub content_of : Chunk → List ℕ
content_of chunk = chunk.content

-- white bytes and a segment: JSON with its text and the blanks of its ending, or bytes with the blanks of both endings
-- and its chunks
pub data Part : Type 0 where
  TextPart : (white text blanks : List ℕ) → Part
  BytesPart : (white blanks : List ℕ) (chunks : List Chunk) (closing : List ℕ) → Part

-- the white bytes are white, the blanks blank, and the text or the chunks are those of the grammar
abbrev pub IsPart : Part → Type 0
IsPart (TextPart white text blanks) = AllByRecursion IsWhite white × IsText text × AllByRecursion IsBlank blanks
IsPart (BytesPart white blanks chunks closing) =
    AllByRecursion IsWhite white × AllByRecursion IsBlank blanks × AllByRecursion IsChunk chunks
    × AllByRecursion IsBlank closing

-- a part as bytes
abbrev pub part_bytes : Part → List ℕ
part_bytes (TextPart white text blanks) = white ++ text ++ line_feed ∷ hash_sign ∷ [] ++ ending blanks
part_bytes (BytesPart white blanks chunks closing) =
    white ++ at_sign ∷ [] ++ ending blanks ++ flat_map chunk_bytes chunks ++ hash_sign ∷ [] ++ ending closing

-- the segment of a part
abbrev pub segment_of_part : Part → Segment
segment_of_part (TextPart white text blanks) = segment kinds.Json text
segment_of_part (BytesPart white blanks chunks closing) = segment kinds.Bytes (flat_map content_of chunks)

-- The bytes are a message of the grammar, and its segments have these contents: a spelling without limits.
pub record IsSpelling (bytes : List ℕ) (message : List Segment) : Type 0 where
  pub parts : List Part
  pub white : List ℕ
  pub blanks : List ℕ
  pub are_parts : AllByRecursion IsPart parts
  pub are_white : AllByRecursion IsWhite white
  pub are_blank : AllByRecursion IsBlank blanks
  pub spelled : bytes ≡ flat_map part_bytes parts ++ white ++ hash_sign ∷ [] ++ ending blanks
  pub message_is : message ≡ map segment_of_part parts
