-- One request on a link, and what comes back. This project's own.
use Rattle.std.specs.Prelude.{◌≡◌, ◌≤◌, ◌+◌, ℕ, Bool, false, List, [], ◌++◌, length, take, Option, None, Some, Result, Ok, Err, nat_eq, if◌then◌else◌}
use Rattle.std.specs.Cmp.Lexicographic.{pointwise}
use Rattle.base_core.specs.Causes.{Rose}
use Rattle.doip_segment.specs.declared.outcome.Limits.{Limits}
use Rattle.doip_segment.specs.Segments.{Segment}
use Rattle.doip_segment.specs.Framing.{Spelt, NothingSpelt, Broken, IsUnfinished, saturated}
use Rattle.doip_message.specs.declared.response.Response.{Response}
use Rattle.doip_message.specs.Reply.{Replied, replied_of}
use Rattle.doip_exchange.specs.declared.fault.ResponseFault.{ResponseFault}
use Rattle.doip_exchange.specs.Answer.{response}
use Rattle.doip_client.specs.declared.fault.ClientFault.{ClientFault}
use Rattle.doip_client.specs.declared.fault.ClientFault.TheVariants.{WriteFault, ReadFault, Cut, Framing, BadResponse, OtherId, Memory}

-- whether the request id that came is the one that was sent
abbrev pub is_sent : Option (List ℕ) → List ℕ → Bool
is_sent None came = false
is_sent (Some sent) came = pointwise nat_eq sent came

-- a response that carries no request id is taken, and one that carries one if it is the one that was sent
abbrev pub taken_with : Option (List ℕ) → Option (List ℕ) → Replied → Result Replied ClientFault
taken_with sent None p = Ok p
taken_with sent (Some came) p = if is_sent sent came then Ok p else Err (OtherId sent came)

-- what a response answers, or a message that is none
abbrev pub answer_with : Option (List ℕ) → Result Replied ResponseFault → Result Replied ClientFault
answer_with sent (Ok p) = taken_with sent p.request_id p
answer_with sent (Err why) = Err (BadResponse why)

-- what a whole message answers, where this request id was sent
abbrev pub answered : Option (List ℕ) → List Segment → Result Replied ClientFault
answered sent segments = answer_with sent (response segments)

-- an answer as plain data
abbrev pub answer_of : Result Response ClientFault → Result Replied ClientFault
answer_of (Ok response) = Ok (replied_of response)
answer_of (Err fault) = Err fault

-- An exchange: the request id that was sent, the text of the request, and what of it was written; how many bytes the
-- decoder had taken before, those that it took now, and those after them; and how often the link had failed.
pub record Exchange : Type 0 where
  pub sent : Option (List ℕ)
  pub text : List ℕ
  pub wrote : List ℕ
  pub before : ℕ
  pub took : List ℕ
  pub after : List ℕ
  pub faults_before : ℕ
  pub faults_after : ℕ

-- a prefix of the text was written
abbrev pub WrotePrefix : Exchange → Type 0
WrotePrefix x = (n : ℕ) × (n ≤ length x.text) × (x.wrote ≡ take n x.text)

-- the whole text was written
abbrev pub WroteAll : Exchange → Type 0
WroteAll x = x.wrote ≡ x.text

-- a call of the link failed
abbrev pub LinkFailed : Exchange → Type 0
LinkFailed x = Rose x.faults_before x.faults_after

-- the place of the last byte that was taken, in a session's bytes
abbrev pub IsLastPlace : Exchange → ℕ → Type 0
IsLastPlace x place = place ≡ saturated (x.before + length x.took)

-- what was taken is a message, and this is what it answers
abbrev pub Answers : Limits → Exchange → Result Replied ClientFault → Type 0
Answers limits x answer = (message : List Segment) × Spelt limits x.took message × (answered x.sent message ≡ answer)

-- What each answer says. The bytes that were to be read are those that were taken and those after them.
abbrev pub Outcome : Limits → Exchange → Result Replied ClientFault → Type 0
Outcome limits x (Ok p) = WroteAll x × Answers limits x (Ok p)
Outcome limits x (Err (BadResponse why)) = WroteAll x × Answers limits x (Err (BadResponse why))
Outcome limits x (Err (OtherId sent came)) = WroteAll x × Answers limits x (Err (OtherId sent came))
Outcome limits x (Err (Framing place reason)) =
    WroteAll x × Broken limits (x.took ++ x.after) (length x.took) reason × NothingSpelt limits (x.took ++ x.after)
    × IsLastPlace x place
Outcome limits x (Err (Cut place)) = WroteAll x × IsUnfinished limits x.took × (x.after ≡ []) × IsLastPlace x place
Outcome limits x (Err ReadFault) = WroteAll x × IsUnfinished limits x.took × LinkFailed x
Outcome limits x (Err WriteFault) = WrotePrefix x × (x.took ≡ []) × LinkFailed x
Outcome limits x (Err Memory) = WrotePrefix x

-- no call of the link failed, and memory sufficed
abbrev pub IsFaultless : Result Replied ClientFault → Type 0
IsFaultless (Err WriteFault) = ⊥
IsFaultless (Err ReadFault) = ⊥
IsFaultless (Err Memory) = ⊥
IsFaultless answer = Unit {0}

-- Two exchanges under the same limits that sent the same request id, after the same number of bytes, with the same bytes
-- to read, and whose answers are these.
pub record ReadOneInput (limits : Limits) (one other : Exchange) (first second : Result Replied ClientFault) : Type 0 where
  pub first_outcome : Outcome limits one first
  pub second_outcome : Outcome limits other second
  pub sent : one.sent ≡ other.sent
  pub before : one.before ≡ other.before
  pub input : one.took ++ one.after ≡ other.took ++ other.after
  pub first_faultless : IsFaultless first
  pub second_faultless : IsFaultless second
