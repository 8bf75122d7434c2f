-- What contracts see of a decoder.
use Rattle.std.specs.Prelude.{◌≡◌, ℕ, ◌+◌, ◌≤◌, ◌⊎◌, List, ◌∷◌, ◌++◌, length, take}
use Rattle.std.specs.List.{AllByRecursion}
use Rattle.doip_segment.specs.declared.outcome.Limits.{Limits}
use Rattle.doip_segment.specs.declared.outcome.Step.{Step}
use Rattle.doip_segment.specs.declared.outcome.Step.TheVariants as steps
use Rattle.doip_segment.specs.Segments.{Segment}
use Rattle.doip_segment.specs.Grammar.{IsWhite}
use Rattle.doip_segment.specs.Framing.{Spelt, NothingSpelt, Broken, IsUnfinished, saturated}
use Rattle.doip_segment.specs.Machine.{Reading, start, run, outcome_of}

-- A decoder: its limits, what `feed` returns for no bytes, the segments of the message that stands, and how many bytes
-- were taken, at most 2^64 - 1 (`saturated`). Clauses name the reading through `Took` alone.
pub record Decoding : Type 0 where
  pub limits : Limits
  pub standing : Step
  pub segments : List Segment
  pub taken : ℕ
  pub reading : Reading

-- what a decoder shows follows from its reading
pub record Shows (d : Decoding) : Type 0 where
  pub standing : d.standing ≡ outcome_of d.reading.phase d.taken
  pub segments : d.segments ≡ d.reading.segments

-- The bytes were taken since the decoder's last message, and no others.
pub record Took (d : Decoding) (bytes : List ℕ) : Type 0 where
  pub reading : d.reading ≡ run d.limits start bytes
  pub count : d.reading.count ≡ length bytes
  pub shows : Shows d

-- a message stands
abbrev pub IsStanding : Decoding → Type 0
IsStanding d = d.standing ≡ steps.Message

-- A message stands, or no fault does and only white bytes came since the last one.
abbrev pub EndsBetween : Decoding → List ℕ → Type 0
EndsBetween d came = (d.standing ≡ steps.Message) ⊎ ((d.standing ≡ steps.More) × AllByRecursion IsWhite came)

-- the place of a fault is the number of bytes taken
abbrev pub IsPlaced : Step → ℕ → Type 0
IsPlaced (steps.Fault place reason) taken = place ≡ taken
IsPlaced _ taken = Unit {0}

-- The decoder took these bytes more.
pub record Feeds (fed : List ℕ) (old new : Decoding) : Type 0 where
  pub limits : new.limits ≡ old.limits
  pub took : (came : List ℕ) → Took old came → Took new (came ++ fed)
  pub taken : new.taken ≡ saturated (old.taken + length fed)

-- How much of a piece is consumed: all of it where more is needed. The place of a fault is the number of bytes taken.
pub record Uses (piece : List ℕ) (used : ℕ) (step : Step) (new : Decoding) : Type 0 where
  pub within : used ≤ length piece
  pub more : step ≡ steps.More → used ≡ length piece
  pub place : IsPlaced step new.taken

-- What a result means, for the bytes that came since the last message and a piece after them: more is needed, the bytes
-- are a message up to the last one consumed, or that byte is the fault and its place the number of bytes taken.
abbrev pub Frames : Limits → List ℕ → List ℕ → ℕ → Step → Decoding → Type 0
Frames limits came piece used steps.More new = (used ≡ length piece) × IsUnfinished limits (came ++ piece)
Frames limits came piece used steps.Message new = Spelt limits (came ++ take used piece) new.segments
Frames limits came piece used (steps.Fault place reason) new =
    Broken limits (came ++ piece) (length came + used) reason × NothingSpelt limits (came ++ piece)
    × (place ≡ new.taken)

-- A message that the bytes begin with is read up to its end, whatever comes after it.
abbrev pub ReadsMessage : Limits → List ℕ → List ℕ → ℕ → Step → Decoding → Type 0
ReadsMessage limits came piece used step new =
    (prefix after : List ℕ) (message : List Segment) → Spelt limits prefix message → came ++ piece ≡ prefix ++ after
    → (step ≡ steps.Message) × (length came + used ≡ length prefix) × (new.segments ≡ message)

-- Of a message that isn't whole yet all bytes are consumed.
abbrev pub WaitsForMore : Limits → List ℕ → List ℕ → ℕ → Step → Type 0
WaitsForMore limits came piece used step =
    (next : ℕ) (more : List ℕ) (message : List Segment) → Spelt limits (came ++ piece ++ next ∷ more) message
    → (used ≡ length piece) × (step ≡ steps.More)

-- What `feed` reports of the bytes that came since the last message and the piece after them, in both directions.
pub record Reports (limits : Limits) (came piece : List ℕ) (used : ℕ) (step : Step) (new : Decoding) : Type 0 where
  pub frames : Frames limits came piece used step new
  pub reads : ReadsMessage limits came piece used step new
  pub waits : WaitsForMore limits came piece used step
