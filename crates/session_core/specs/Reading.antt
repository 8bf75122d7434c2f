-- What a reader takes from a link and feeds to a decoder.
use Rattle.std.specs.Prelude.{◌≡◌, ◌≤◌, ℕ, List, Option, [], ◌++◌, length}
use Rattle.std.specs.Io.KnownBytes.{Keeps, Appends, Consumes, IsAtEnd}
use Rattle.link_core.specs.Link.{LinkState}
use Rattle.doip_segment.specs.Decoding.{Decoding, Took, IsStanding, EndsBetween, Feeds, Frames}
use Rattle.doip_segment.specs.declared.outcome.Step.{Step}
use Rattle.doip_segment.specs.declared.outcome.Step.TheVariants as steps
use Rattle.session_core.specs.declared.reader.Next.{Next}
use Rattle.session_core.specs.declared.reader.Next.TheVariants.{Message, Ended, Cut, Framing, ReadFault}

-- The decoder took a prefix of what the reader held, and the reader holds the rest.
pub record FeedsHeld (held_old held_new : List ℕ) (old new : Decoding) : Type 0 where
  pub fed : List ℕ
  pub split : held_old ≡ fed ++ held_new
  pub feeds : Feeds fed old new

-- The same, and the step is what the bytes say: those that came since the last message, and these after them.
pub record FramesHeld (step : Step) (held_old held_new : List ℕ) (old new : Decoding) : Type 0 where
  pub fed : List ℕ
  pub split : held_old ≡ fed ++ held_new
  pub feeds : Feeds fed old new
  pub frames : (came : List ℕ) → Took old came
      → Frames old.limits came (fed ++ held_new) (length fed) step new

-- what the decoder reports at each result
abbrev pub decoder_step : Next → Step
decoder_step Message = steps.Message
decoder_step (Framing place reason) = steps.Fault place reason
decoder_step _ = steps.More

-- What a call that only reads leaves of a link: what was written, and whether it is closed. Its faults never fall, and
-- its reads never rise.
pub record OnlyReads (old new : LinkState) : Type 0 where
  pub written : Keeps old.written new.written
  pub closed : new.closed ≡ old.closed
  pub later : old.faults ≤ new.faults
  pub reads : new.reads ≤ old.reads

-- Where bytes are on their way: those that the reader holds, the link, and what the decoder has read.
pub record Stage : Type 0 where
  pub held : List ℕ
  pub link : LinkState
  pub decoder : Decoding

-- the stage with these parts
abbrev pub stage : List ℕ → LinkState → Decoding → Stage
stage held link decoder = record { held = held; link = link; decoder = decoder }

-- The link gave bytes; of what the reader held followed by these the decoder took a prefix, and the reader holds the
-- rest. The step is what the bytes say.
pub record Flows (step : Step) (old new : Stage) : Type 0 where
  pub gave : List ℕ
  pub fed : List ℕ
  pub taken : Appends old.link.taken new.link.taken gave
  pub left : Consumes old.link.left new.link.left gave
  pub split : old.held ++ gave ≡ fed ++ new.held
  pub feeds : Feeds fed old.decoder new.decoder
  pub frames : (came : List ℕ) → Took old.decoder came
      → Frames old.decoder.limits came (fed ++ new.held) (length fed) step new.decoder

-- The link is at its end, the decoder has taken all that it gave, and has neither a finished message nor a fault.
pub record IsSpent (held : List ℕ) (left : Option (List ℕ)) (decoder : Decoding) : Type 0 where
  pub nothing_held : held ≡ []
  pub at_end : IsAtEnd left
  pub none : decoder.standing ≡ steps.More

-- What each result of `next` says of the reader, the link and the decoder.
abbrev pub Means : Next → List ℕ → Option (List ℕ) → Decoding → Type 0
Means Message held left decoder = IsStanding decoder
Means (Framing place reason) held left decoder = place ≡ decoder.taken
Means Ended held left decoder =
    IsSpent held left decoder × ((came : List ℕ) → Took decoder came → EndsBetween decoder came)
Means (Cut place) held left decoder =
    IsSpent held left decoder × (place ≡ decoder.taken)
    × ((came : List ℕ) → Took decoder came → ¬ EndsBetween decoder came)
Means ReadFault held left decoder = held ≡ []

-- a read of the link failed
abbrev pub IsReadFault : Next → Type 0
IsReadFault ReadFault = Unit {0}
IsReadFault _ = ⊥

-- what the link's end is: between two messages, or inside one
abbrev pub MatchesEnd : Next → Decoding → Type 0
MatchesEnd Ended decoder = (came : List ℕ) → Took decoder came → EndsBetween decoder came
MatchesEnd (Cut place) decoder =
    (place ≡ decoder.taken) × ((came : List ℕ) → Took decoder came → ¬ EndsBetween decoder came)
MatchesEnd _ decoder = ⊥
