-- A file has one meaning.
use Rattle.std.proofs.Common.{◌≡◌, ℕ, ◌%◌, ◌^◌, ◌≤◌, ◌<◌, List, ◌∷◌, ◌++◌, length, get_or, drop, replicate, sym, ◌∙◌, ap, arith, length-take}
use Rattle.std.specs.List.{All, flat_map}
use Rattle.journal_core.specs.File.{header, HasHeader, base_of, inside_of, Fits, opened, listed}
use Rattle.journal_core.specs.declared.layout.Format.{Format}
use Rattle.journal_core.specs.declared.records.Record.{Record}
use Rattle.journal_core.proofs.Fields.{same_field}
use Rattle.journal_core.proofs.Unique.{records_same, Ends, Follows}

-- a header has one length and one side byte
pub header_same : (a b s t : ℕ) → a ≤ 268435456 → b ≤ 268435456 → header a s ≡ header b t → (a ≡ b) × (s ≡ t)
header_same a b s t small below same =
    let rest = same_field a b (s ∷ replicate 15 0) (t ∷ replicate 15 0) (omega (arith, small)) (omega (arith, below)) (ap (λ (l : List ℕ). drop 8 l) same) in
    (rest.0, ap (λ (l : List ℕ). get_or l 0 0) rest.1)

-- a file has one header
pub one_area : (file : List ℕ) (a s b t : ℕ) → HasHeader file a s → HasHeader file b t → (a ≡ b) × (s ≡ t)
one_area file a s b t first second =
    let same = header_same a b first.side_byte second.side_byte first.most second.most (sym first.prefix ∙ second.prefix) in
    (same.0, first.side_is ∙ ap (λ (n : ℕ). n % 2) same.1 ∙ sym second.side_is)

pub length-inside : (file : List ℕ) (area side : ℕ) → length (inside_of file area side) ≤ area
length-inside file area side = omega (arith, length-take area (drop (base_of area side) file))

-- the bytes of an area are read as records in one way
pub one_list : (format : Format) (file : List ℕ) (area side : ℕ) (xs ys : List Record) (s t : List ℕ) → All (Fits format) xs → All (Fits format) ys → area ≤ 268435456
    → inside_of file area side ≡ listed format xs ++ s → inside_of file area side ≡ listed format ys ++ t → Follows xs s → Follows ys t → Ends format s → Ends format t → (xs ≡ ys) × (s ≡ t)
one_list format file area side xs ys s t fits also most first second fs ft es et =
    let within = length-inside file area side in
    let size : length (flat_map (opened format) xs ++ s) < 2 ^ 64 = omega (arith, within, most, ap length first) in
    let other : length (flat_map (opened format) ys ++ t) < 2 ^ 64 = omega (arith, within, most, ap length second) in
    records_same format xs ys s t fits also size other fs ft es et (ap (λ (l : List ℕ). drop 1 l) (sym first ∙ second))
