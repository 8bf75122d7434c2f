-- What the reading of an area returns.
use Rattle.std.specs.Prelude.{◌≡◌, ◌≢◌, ◌⊎◌, ℕ, ◌+◌, ◌<◌, Bool, true, false, List, [], ◌∷◌, ◌++◌, length, take, drop, Option, Some, None}
use Rattle.std.specs.List.{All}
use Rattle.journal_core.specs.Layout.{version_of, open_gate}
use Rattle.journal_core.specs.File.{opened, content_of, listed, Fits, LacksRecord, IsBroken}
use Rattle.journal_core.specs.Journal.{IsNumbered}
use Rattle.journal_core.specs.declared.area.Next.{Next}
use Rattle.journal_core.specs.declared.area.Next.TheVariants as next
use Rattle.journal_core.specs.declared.layout.Format.{Format}
use Rattle.journal_core.specs.declared.open.OpenFault.{OpenFault}
use Rattle.journal_core.specs.declared.open.OpenFault.TheVariants as fault
use Rattle.journal_core.specs.declared.records.Record.{Record}

-- so many bytes of a file from a place on, or what it has of them
abbrev pub rest_at : List ℕ → ℕ → ℕ → List ℕ
rest_at file place left = take left (drop place file)

-- the file has all of them
abbrev pub Reaches : List ℕ → ℕ → ℕ → Type 0
Reaches file place left = length (rest_at file place left) ≡ left

-- whether these bytes come first, or there are too few
abbrev pub IsFirstOf : List ℕ → List ℕ → Bool → Type 0
IsFirstOf rest into true = rest ≡ into ++ drop (length into) rest
IsFirstOf rest into false = length rest < length into

-- these records, taking so many bytes, and then a gate that isn't open
abbrev pub IsRead : Format → List ℕ → List Record → ℕ → Type 0
IsRead format inside entries used = (gate : ℕ) × (rest : List ℕ) × (inside ≡ listed format entries ++ gate ∷ rest)
    × (gate ≢ open_gate) × (used ≡ length (listed format entries)) × All (Fits format) entries

-- why there is no such list in an area that begins at `base`
abbrev pub Refuses : Format → ℕ → List ℕ → OpenFault → Type 0
Refuses format base inside fault.NotAStore = inside ≡ []
Refuses format base inside (fault.Version byte) =
    (rest : List ℕ) × (inside ≡ byte ∷ rest) × (byte ≢ version_of format)
Refuses format base inside (fault.Damaged place) = (entries : List Record) × (tail : List ℕ)
    × (inside ≡ listed format entries ++ tail) × All (Fits format) entries × IsBroken format entries tail
    × (place ≡ base + length (listed format entries))
Refuses format base inside fault.DiskFault = Unit {0}
Refuses format base inside fault.Memory = Unit {0}

-- what is at a gate's place
abbrev pub IsNext : Format → List ℕ → Next → Type 0
IsNext format rest next.Closed = (gate : ℕ) × (more : List ℕ) × (rest ≡ gate ∷ more) × (gate ≢ open_gate)
IsNext format rest next.Broken =
    (rest ≡ []) ⊎ ((suffix : List ℕ) × (rest ≡ open_gate ∷ suffix) × LacksRecord format suffix)
IsNext format rest (next.Open entry) = Fits format entry
    × (rest ≡ opened format entry ++ drop (length (opened format entry)) rest)

-- a record, if one is whole with the next gate after it
abbrev pub IsRecordOf : Format → List ℕ → Option Record → Type 0
IsRecordOf format suffix None = LacksRecord format suffix
IsRecordOf format suffix (Some entry) = Fits format entry
    × (suffix ≡ content_of format entry ++ drop (length (content_of format entry)) suffix)

-- an open record has a number in its bounds
abbrev pub IsNumberedNext : Next → Type 0
IsNumberedNext next.Closed = Unit {0}
IsNumberedNext next.Broken = Unit {0}
IsNumberedNext (next.Open entry) = IsNumbered entry

-- of what is left of an area a closed gate takes a byte, and an open record leaves one for the next gate
abbrev pub IsWithin : Format → ℕ → Next → Type 0
IsWithin format left next.Closed = 0 < left
IsWithin format left next.Broken = Unit {0}
IsWithin format left (next.Open entry) = length (opened format entry) < left
