-- A session as the calls of feed that read it, however it is cut into pieces.
use Rattle.std.specs.Prelude.{◌≡◌, ◌+◌, ℕ, List, [], ◌∷◌, ◌++◌, length, take}
use Rattle.std.specs.List.{flat_map}
use Rattle.doip_segment.specs.declared.outcome.Limits.{Limits}
use Rattle.doip_segment.specs.declared.outcome.Step.{Step}
use Rattle.doip_segment.specs.declared.outcome.Step.TheVariants.{Message, Fault}
use Rattle.doip_segment.specs.Segments.{Segment}
use Rattle.doip_segment.specs.Framing.{IsUnbroken, BreaksSession, saturated}
use Rattle.doip_segment.specs.Decoding.{Decoding, Frames}

-- one call: its piece, what it returned, and the decoder after it
pub record Call : Type 0 where
  pub piece : List ℕ
  pub used : ℕ
  pub step : Step
  pub decoder : Decoding

-- what came since the last message, after a call: a message that stands is dropped before the next
abbrev pub came_after : List ℕ → Call → Step → List ℕ
came_after came call Message = []
came_after came call _ = came ++ take call.used call.piece

-- after a fault there is no call
abbrev pub GoesOn : Step → List Call → Type 0
GoesOn (Fault place reason) calls = calls ≡ []
GoesOn _ calls = Unit {0}

-- Each call returns what feed does, for the bytes that came since the last message, and counts the bytes taken.
abbrev pub IsSession : Limits → List ℕ → ℕ → List Call → Type 0
IsSession limits came taken [] = Unit {0}
IsSession limits came taken (call ∷ calls) = Frames limits came call.piece call.used call.step call.decoder
    × (call.decoder.taken ≡ saturated (taken + length (take call.used call.piece))) × GoesOn call.step calls
    × IsSession limits (came_after came call call.step) call.decoder.taken calls

-- all bytes that the calls took
abbrev pub bytes_of : List Call → List ℕ
bytes_of calls = flat_map (λ (c : Call). take c.used c.piece) calls

-- the message that a call returned, if it did
abbrev pub message_at : Step → List Segment → List (List Segment)
message_at Message segments = segments ∷ []
message_at _ segments = []

-- the messages that were returned
abbrev pub messages_read : List Call → List (List Segment)
messages_read calls = flat_map (λ (c : Call). message_at c.step c.decoder.segments) calls

-- what came since the last message, at the end
abbrev pub rest_of : List ℕ → List Call → List ℕ
rest_of came [] = came
rest_of came (call ∷ calls) = rest_of (came_after came call call.step) calls

-- the end of a session by its last result: after a fault its rest breaks at that place of its bytes, for that reason,
-- and else nowhere
abbrev pub EndsAt : Limits → List ℕ → List ℕ → Step → Type 0
EndsAt limits bytes rest (Fault place reason) = BreaksSession limits bytes rest place reason
EndsAt limits bytes rest _ = IsUnbroken limits rest

-- the end of a session by its calls, and by the result before them where there are none
abbrev pub Ends : Limits → List ℕ → List ℕ → Step → List Call → Type 0
Ends limits bytes rest last [] = EndsAt limits bytes rest last
Ends limits bytes rest last (call ∷ calls) = Ends limits bytes rest call.step calls
