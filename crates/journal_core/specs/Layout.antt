-- The numbers of a journal's file: where its parts stand, and the bytes that have a meaning.
use Rattle.std.specs.Prelude.{ℕ, List, [], ◌∷◌}
use Rattle.journal_core.specs.declared.layout.Format.{Format}
use Rattle.journal_core.specs.declared.layout.Format.TheVariants.{First, Second}

-- the text DOIPREP1
abbrev pub magic : List ℕ
magic = 68 ∷ 79 ∷ 73 ∷ 80 ∷ 82 ∷ 69 ∷ 80 ∷ 49 ∷ []

-- the bytes before the first area
abbrev pub header_length : ℕ
header_length = 32

-- the place of the side byte
abbrev pub side_place : ℕ
side_place = 16

-- the least length of an area
abbrev pub least_area : ℕ
least_area = 64

-- the greatest length of an area
abbrev pub most_area : ℕ
most_area = 268435456

-- the greatest number of a change
abbrev pub most_number : ℕ
most_number = 281474976710656

-- the first byte of an area
abbrev pub version_of : Format → ℕ
version_of First = 1
version_of Second = 2

-- the gate byte of a record that counts
abbrev pub open_gate : ℕ
open_gate = 1

-- the gate byte that is written after the last record; every byte but `open_gate` closes a list
abbrev pub closed_gate : ℕ
closed_gate = 0

-- the bytes between a gate and a body: the length, and in format 2 the number and the time
abbrev pub fields_length : Format → ℕ
fields_length First = 8
fields_length Second = 24

-- the bytes after a body: none, and in format 2 a digest
abbrev pub check_length : Format → ℕ
check_length First = 0
check_length Second = 32

-- what a record of format 2 takes beside its body: gate, length, number, time and digest
abbrev pub record_overhead : ℕ
record_overhead = 57

-- the bytes that a journal reads and writes at once
abbrev pub piece_length : ℕ
piece_length = 65536
