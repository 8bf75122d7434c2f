-- The decoder's reading of a message, one byte after another.
use Rattle.std.specs.Prelude.{ℕ, zero, suc, ◌+◌, ◌-◌, ◌*◌, ◌≤◌, ◌<◌, ◌^◌, List, [], ◌∷◌, ◌++◌, length, Bool, true, false, Option, None, Some, nat_lt, nat_le, ◌==◌, ◌||◌, ◌&&◌, if◌then◌else◌}
use Rattle.doip_segment.specs.declared.kind.Kind.{Kind}
use Rattle.doip_segment.specs.declared.kind.Kind.TheVariants as kinds
use Rattle.doip_segment.specs.declared.class.Class.{Class}
use Rattle.doip_segment.specs.declared.class.Class.TheVariants.{LineFeed, Blank, Hash, At, Digit, Other}
use Rattle.doip_segment.specs.declared.outcome.Limits.{Limits}
use Rattle.doip_segment.specs.declared.outcome.Reason.{Reason}
use Rattle.doip_segment.specs.declared.outcome.Reason.TheVariants as reasons
use Rattle.doip_segment.specs.declared.outcome.End.{End}
use Rattle.doip_segment.specs.declared.outcome.End.TheVariants as ends
use Rattle.doip_segment.specs.declared.outcome.Step.{Step}
use Rattle.doip_segment.specs.declared.outcome.Step.TheVariants as steps
use Rattle.doip_segment.specs.declared.phase.Phase.{Phase}
use Rattle.doip_segment.specs.declared.phase.Phase.TheVariants.{Due, Text, LineStart, JsonEnd, BytesStart, ChunkDue, Digits, Padding, Data, DataEnd, BytesEnd, MessageEnd, Whole, Stuck}
use Rattle.doip_segment.specs.Segments.{Segment, segment, most_segments}
use Rattle.doip_segment.specs.Grammar.{line_feed, space, tab, carriage_return, hash_sign, at_sign, digit_zero, digit_nine, most_digits}

-- what a byte is to the framing
abbrev pub class_of : ℕ → Class
class_of b =
    if b == line_feed then LineFeed
    else if b == space || b == tab || b == carriage_return then Blank
    else if b == hash_sign then Hash
    else if b == at_sign then At
    else if nat_le digit_zero b && nat_le b digit_nine then Digit (b - digit_zero)
    else Other

-- after a `#` or an `@`: blanks, and then a line feed
abbrev pub marker : Phase → Class → Phase → Phase
marker phase LineFeed after = after
marker phase Blank after = phase
marker phase _ after = Stuck reasons.Marker

-- so many bytes of a chunk's data are due
abbrev pub data_due : ℕ → Phase
data_due zero = DataEnd
data_due (suc n) = Data (suc n)

-- after the digits of a chunk's length: another digit, a blank, or the line feed
abbrev pub after_digits : ℕ → ℕ → Class → Phase
after_digits count value LineFeed = data_due value
after_digits count value Blank = Padding value
after_digits count value (Digit d) =
    if nat_lt count most_digits then Digits (count + 1) (10 * value + d) else Stuck reasons.Length
after_digits count value _ = Stuck reasons.Length

-- where a byte leads
abbrev pub next_phase : Phase → Class → Phase
next_phase Due LineFeed = Due
next_phase Due Blank = Due
next_phase Due Hash = MessageEnd
next_phase Due At = BytesStart
next_phase Due (Digit d) = Text
next_phase Due Other = Text
next_phase Text LineFeed = LineStart
next_phase Text _ = Text
next_phase LineStart LineFeed = LineStart
next_phase LineStart Hash = JsonEnd
next_phase LineStart _ = Text
next_phase JsonEnd class = marker JsonEnd class Due
next_phase BytesStart class = marker BytesStart class ChunkDue
next_phase ChunkDue (Digit d) = Digits 1 d
next_phase ChunkDue Hash = BytesEnd
next_phase ChunkDue _ = Stuck reasons.Length
next_phase (Digits count value) class = after_digits count value class
next_phase (Padding value) LineFeed = data_due value
next_phase (Padding value) Blank = Padding value
next_phase (Padding value) _ = Stuck reasons.Length
next_phase (Data left) class = data_due (left - 1)
next_phase DataEnd LineFeed = ChunkDue
next_phase DataEnd _ = Stuck reasons.ChunkEnd
next_phase BytesEnd class = marker BytesEnd class Due
next_phase MessageEnd class = marker MessageEnd class Whole
next_phase Whole class = Stuck reasons.Marker
next_phase (Stuck reason) class = Stuck reason

-- what a byte adds to the content of the segment that is being read; the line feed before `#` is no content
abbrev pub added : Phase → Class → ℕ → List ℕ
added Due (Digit d) b = b ∷ []
added Due Other b = b ∷ []
added Text LineFeed b = []
added Text _ b = b ∷ []
added LineStart Hash b = []
added LineStart LineFeed b = line_feed ∷ []
added LineStart _ b = line_feed ∷ b ∷ []
added (Data left) class b = b ∷ []
added _ _ b = []

-- the kind of the segment that a byte closes
abbrev pub closed : Phase → Class → Option Kind
closed JsonEnd LineFeed = Some kinds.Json
closed BytesEnd LineFeed = Some kinds.Bytes
closed _ _ = None

-- What has been read of a message: the segments that are closed, the content of the one that isn't, the place in the
-- grammar, and how many bytes it took.
pub record Reading : Type 0 where
  pub segments : List Segment
  pub pending : List ℕ
  pub phase : Phase
  pub count : ℕ

-- before the first byte of a message
abbrev pub start : Reading
start = record { segments = []; pending = []; phase = Due; count = 0 }

-- the segments and the pending content after a byte
abbrev pub kept : List Segment → List ℕ → Option Kind → List ℕ → List Segment × List ℕ
kept segments pending None more = (segments, pending ++ more)
kept segments pending (Some kind) more = (segments ++ segment kind pending ∷ [], [])

-- a byte of the grammar, whatever the limits are
abbrev pub stepped : Reading → Class → ℕ → Reading
stepped r class b =
    let content = kept r.segments r.pending (closed r.phase class) (added r.phase class b) in
    record { segments = content.0; pending = content.1; phase = next_phase r.phase class; count = r.count + 1 }

-- the byte is one too many for the limit of a JSON segment
abbrev pub passes_json : ℕ → Phase → Class → ℕ → Bool
passes_json json Text class size = nat_lt json size
passes_json json LineStart Hash size = false
passes_json json LineStart _ size = nat_le json size
passes_json json _ class size = false

-- the byte begins a segment
abbrev pub begins : Phase → Class → Bool
begins Due At = true
begins Due (Digit d) = true
begins Due Other = true
begins _ _ = false

-- the limit that a byte breaks
abbrev pub limit_fault : Limits → Reading → Class → Option Reason
limit_fault limits r class =
    if nat_le limits.total r.count then Some reasons.TooLong
    else if passes_json limits.json r.phase class (length r.pending) then Some reasons.JsonTooLong
    else if begins r.phase class && nat_le most_segments (length r.segments) then Some reasons.TooMany
    else None

-- nothing more is read after a whole message or a fault
abbrev pub is_done : Phase → Bool
is_done Whole = true
is_done (Stuck reason) = true
is_done _ = false

-- a byte that may break a limit
abbrev pub stepped_within : Option Reason → Reading → Class → ℕ → Reading
stepped_within None r class b = stepped r class b
stepped_within (Some reason) r class b = record r { phase = Stuck reason; count = r.count + 1 }

-- one byte more
abbrev pub advanced : Limits → Reading → ℕ → Reading
advanced limits r b = if is_done r.phase then r else stepped_within (limit_fault limits r (class_of b)) r (class_of b) b

-- these bytes more
abbrev pub run : Limits → Reading → List ℕ → Reading
run limits r [] = r
run limits r (b ∷ bs) = run limits (advanced limits r b) bs

-- the numbers of a phase are those of a length with at most ten digits
abbrev pub IsInRange : Phase → Type 0
IsInRange (Digits count value) = (count ≤ most_digits) × (value < 10 ^ count)
IsInRange (Padding value) = value < 10 ^ most_digits
IsInRange (Data left) = (0 < left) × (left < 10 ^ most_digits)
IsInRange _ = Unit {0}

-- what stands, as a result of feed
abbrev pub outcome_of : Phase → ℕ → Step
outcome_of Whole taken = steps.Message
outcome_of (Stuck reason) taken = steps.Fault taken reason
outcome_of _ taken = steps.More

-- where the session ends if no byte more comes
abbrev pub end_of : Phase → List Segment → ℕ → End
end_of Whole segments taken = ends.Between
end_of Due [] taken = ends.Between
end_of _ segments taken = ends.Inside taken
