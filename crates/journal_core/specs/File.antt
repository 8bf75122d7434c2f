-- What a journal's file stands for: one list of records, or one refusal.
use Rattle.std.specs.Prelude.{◌≡◌, ◌≢◌, ◌⊎◌, ℕ, ◌+◌, ◌*◌, ◌%◌, ◌^◌, ◌<◌, ◌≤◌, List, [], ◌∷◌, ◌++◌, length, take, drop, replicate}
use Rattle.std.specs.List.{All, flat_map}
use Rattle.std.specs.Int.{w64, to_be_bytes}
use Rattle.sha2.specs.Sha256.{sha256}
use Rattle.journal_core.specs.Layout.{magic, header_length, least_area, most_area, most_number, version_of, open_gate, closed_gate}
use Rattle.journal_core.specs.declared.layout.Format.{Format}
use Rattle.journal_core.specs.declared.layout.Format.TheVariants.{First, Second}
use Rattle.journal_core.specs.declared.records.Record.{Record}
use Rattle.journal_core.specs.declared.records.Stamp.{Stamp}

-- the eight bytes of a number, the highest first
unfoldable pub big_endian : ℕ → List ℕ
big_endian number = to_be_bytes w64 number

-- the first 32 bytes of a file: the text, the length of an area, the side byte, and zeros
abbrev pub header : ℕ → ℕ → List ℕ
header area side_byte = magic ++ (big_endian area ++ side_byte ∷ replicate 15 0)

-- The file begins with a header that names areas of this length, and this side: the side byte modulo 2.
pub record HasHeader (file : List ℕ) (area side : ℕ) : Type 0 where
  pub least : least_area ≤ area
  pub most : area ≤ most_area
  pub side_byte : ℕ
  pub side_is : side ≡ side_byte % 2
  pub prefix : take header_length file ≡ header area side_byte

-- where the area of a side begins
abbrev pub base_of : ℕ → ℕ → ℕ
base_of area side = header_length + side * area

-- the bytes of the area of that side that lie inside the file
abbrev pub inside_of : List ℕ → ℕ → ℕ → List ℕ
inside_of file area side = take area (drop (base_of area side) file)

-- the stamp of a record in format 1, which has none
abbrev pub no_stamp : Stamp
no_stamp = record { number = 0; time = 0 }

-- what stands between a record's gate and its body: the length of the body, and in format 2 the number and the time
abbrev pub fields_of : Format → Record → List ℕ
fields_of First entry = big_endian (length entry.body)
fields_of Second entry =
    big_endian (length entry.body) ++ (big_endian entry.stamp.number ++ big_endian entry.stamp.time)

-- what stands after the body: in format 2 the SHA-256 (FIPS 180-4) of the fields and the body
abbrev pub check_of : Format → Record → List ℕ
check_of First entry = []
check_of Second entry = sha256 (fields_of Second entry ++ entry.body)

-- a record without its gate
abbrev pub content_of : Format → Record → List ℕ
content_of format entry = fields_of format entry ++ (entry.body ++ check_of format entry)

-- the stamps that records of a format can have: none, or a number in its bounds and a time of 64 bits
abbrev pub Fits : Format → Record → Type 0
Fits First entry = entry.stamp ≡ no_stamp
Fits Second entry = (entry.stamp.number ≤ most_number) × (entry.stamp.time < 2 ^ 64)

-- a record with its gate open
abbrev pub opened : Format → Record → List ℕ
opened format entry = open_gate ∷ content_of format entry

-- the version byte, and each record with its gate open
abbrev pub listed : Format → List Record → List ℕ
listed format entries = version_of format ∷ flat_map (opened format) entries

-- an area as it is written whole: the list, and a closed gate
abbrev pub written_list : List Record → List ℕ
written_list entries = listed Second entries ++ closed_gate ∷ []

-- what is written after a closed gate to add records: all but the gate of the first, and a closed gate
abbrev pub staged_records : List Record → List ℕ
staged_records entries = drop 1 (flat_map (opened Second) entries ++ closed_gate ∷ [])

-- The area of this side begins, inside file and area, with these records and then a gate that isn't open.
pub record HoldsAt (format : Format) (file : List ℕ) (area side : ℕ) (entries : List Record) : Type 0 where
  pub has : HasHeader file area side
  pub fits : All (Fits format) entries
  pub gate : ℕ
  pub rest : List ℕ
  pub is : inside_of file area side ≡ listed format entries ++ gate ∷ rest
  pub shut : gate ≢ open_gate

-- the file holds these records
abbrev pub Holds : Format → List ℕ → List Record → Type 0
Holds format file entries = (area : ℕ) × (side : ℕ) × HoldsAt format file area side entries

-- the file begins with no header, or ends before the version byte
abbrev pub IsNotAStore : List ℕ → Type 0
IsNotAStore file = (area side : ℕ) → HasHeader file area side → inside_of file area side ≡ []

-- the version byte is another one
abbrev pub HasVersion : Format → List ℕ → ℕ → Type 0
HasVersion format file byte = (area : ℕ) × (side : ℕ) × (rest : List ℕ) × HasHeader file area side
    × (inside_of file area side ≡ byte ∷ rest) × (byte ≢ version_of format)

-- no whole record and next gate begin here: too few bytes, a number out of bounds, or another digest
abbrev pub LacksRecord : Format → List ℕ → Type 0
LacksRecord format suffix = (entry : Record) (gate : ℕ) (rest : List ℕ) → Fits format entry
    → suffix ≢ content_of format entry ++ gate ∷ rest

-- After these whole records the file is damaged: it ends right after the version byte, or an open gate is there, and
-- after that no whole record with the next gate.
abbrev pub IsBroken : Format → List Record → List ℕ → Type 0
IsBroken format entries tail =
    ((entries ≡ []) × (tail ≡ [])) ⊎ ((suffix : List ℕ) × (tail ≡ open_gate ∷ suffix) × LacksRecord format suffix)

-- the gate at this place of the file is missing, or open with no whole record after it
abbrev pub IsDamaged : Format → List ℕ → ℕ → Type 0
IsDamaged format file place = (area : ℕ) × (side : ℕ) × (entries : List Record) × (tail : List ℕ)
    × HasHeader file area side × All (Fits format) entries
    × (inside_of file area side ≡ listed format entries ++ tail) × IsBroken format entries tail
    × (place ≡ base_of area side + length (listed format entries))

-- what a file may stand for: records, or a refusal with its byte or place
pub data Meaning : Type 0 where
  holds : List Record → Meaning
  not_a_store : Meaning
  other_version : ℕ → Meaning
  damaged : ℕ → Meaning

-- the file, read in this format, stands for that
abbrev pub Means : Format → List ℕ → Meaning → Type 0
Means format file (holds entries) = Holds format file entries
Means format file not_a_store = IsNotAStore file
Means format file (other_version byte) = HasVersion format file byte
Means format file (damaged place) = IsDamaged format file place
