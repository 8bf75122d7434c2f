-- What a message answers.
use Rattle.std.proofs.Common.{◌≡◌, ℕ, ◌≤◌, Bool, true, false, List, [], length, take, Option, None, Some, Result, Ok, Err, if◌then◌else◌, sym, ◌∙◌, subst, arith}
use Rattle.std.proofs.lemmas.List.{take_all}
use Rattle.doip_segment.specs.declared.outcome.Limits.{Limits}
use Rattle.doip_segment.specs.Segments.{Segment}
use Rattle.doip_segment.specs.Framing.{Spelt}
use Rattle.doip_segment.specs.Decoding.{Decoding, Took}
use Rattle.doip_message.specs.declared.response.Response.{Response}
use Rattle.doip_message.specs.Reply.{Replied}
use Rattle.doip_exchange.specs.declared.fault.ResponseFault.{ResponseFault}
use Rattle.doip_exchange.specs.Answer.{response}
use Rattle.doip_client.specs.declared.fault.ClientFault.{ClientFault}
use Rattle.doip_client.specs.declared.fault.ClientFault.TheVariants.{WriteFault, ReadFault, Cut, Framing, BadResponse, OtherId, Memory}
use Rattle.doip_client.specs.Exchange.{Exchange, Outcome, is_sent, taken_with, answer_with, answered, answer_of}
use Rattle.doip_client.specs.Asking.{IsReady, IsAnswer}

-- an answer that a message can have
abbrev IsOfMessage : Result Replied ClientFault → Type 0
IsOfMessage (Err WriteFault) = ⊥
IsOfMessage (Err ReadFault) = ⊥
IsOfMessage (Err (Cut place)) = ⊥
IsOfMessage (Err (Framing place reason)) = ⊥
IsOfMessage answer = Unit {0}

by_test : (b : Bool) (sent : Option (List ℕ)) (came : List ℕ) (p : Replied)
    → IsOfMessage (if b then Ok p else Err (OtherId sent came))
by_test true sent came p = tt
by_test false sent came p = tt

by_id : (sent id : Option (List ℕ)) (p : Replied) → IsOfMessage (taken_with sent id p)
by_id sent None p = tt
by_id sent (Some came) p = by_test (is_sent sent came) sent came p

by_response : (sent : Option (List ℕ)) (r : Result Replied ResponseFault) → IsOfMessage (answer_with sent r)
by_response sent (Ok p) = by_id sent p.request_id p
by_response sent (Err why) = tt

of_message : (sent : Option (List ℕ)) (segments : List Segment) (answer : Result Replied ClientFault)
    → answered sent segments ≡ answer → IsOfMessage answer
of_message sent segments answer is = subst IsOfMessage is (by_response sent (response segments))

-- a whole message was taken, and this is its answer
pub message_outcome : (limits : Limits) (x : Exchange) (segments : List Segment) (r : Result Response ClientFault)
    → x.wrote ≡ x.text → Spelt limits x.took segments → IsAnswer r (answered x.sent segments)
    → Outcome limits x (answer_of r)
message_outcome limits x segments (Ok reply) all spelt is = (all, (segments, spelt, is))
message_outcome limits x segments (Err WriteFault) all spelt is = absurd (of_message x.sent segments _ is)
message_outcome limits x segments (Err ReadFault) all spelt is = absurd (of_message x.sent segments _ is)
message_outcome limits x segments (Err (Cut place)) all spelt is = absurd (of_message x.sent segments _ is)
message_outcome limits x segments (Err (Framing place reason)) all spelt is = absurd (of_message x.sent segments _ is)
message_outcome limits x segments (Err (BadResponse why)) all spelt is = (all, (segments, spelt, is))
message_outcome limits x segments (Err (OtherId sent came)) all spelt is = (all, (segments, spelt, is))
message_outcome limits x segments (Err Memory) all spelt is =
    (length x.text, omega arith, all ∙ sym (take_all (length x.text) x.text (omega arith)))

-- a decoder that has taken nothing is ready
pub is_ready : (answer : Result Replied ClientFault) (d : Decoding) → Took d [] → IsReady answer d
is_ready (Ok p) d took = took
is_ready (Err WriteFault) d took = took
is_ready (Err ReadFault) d took = tt
is_ready (Err (Cut place)) d took = tt
is_ready (Err (Framing place reason)) d took = tt
is_ready (Err (BadResponse why)) d took = took
is_ready (Err (OtherId sent came)) d took = took
is_ready (Err Memory) d took = took
