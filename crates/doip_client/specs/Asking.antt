-- What a call of `ask` does to its link, its reader and its decoder.
use Rattle.std.specs.Prelude.{◌≡◌, ◌≤◌, ◌+◌, ℕ, List, [], ◌++◌, length, Option, Some, Result, Ok, Err, unwrap_or}
use Rattle.std.specs.Io.KnownBytes.{Appends, Consumes}
use Rattle.link_core.specs.Link.{LinkState}
use Rattle.doip_segment.specs.Canonical.{canonical}
use Rattle.doip_segment.specs.Framing.{saturated}
use Rattle.doip_segment.specs.Decoding.{Decoding, Took, IsStanding}
use Rattle.doip_message.specs.declared.response.Response.{Response}
use Rattle.doip_message.specs.Asked.{Asked}
use Rattle.doip_message.specs.Reply.{Replied}
use Rattle.doip_exchange.specs.Question.{request_segments}
use Rattle.session_core.specs.Reading.{Stage}
use Rattle.doip_client.specs.declared.fault.ClientFault.{ClientFault}
use Rattle.doip_client.specs.declared.fault.ClientFault.TheVariants.{WriteFault, ReadFault, Cut, Framing, BadResponse, OtherId, Memory}
use Rattle.doip_client.specs.Exchange.{Exchange, Outcome, answer_of}

-- the bytes that a link has yet to give, as far as it reports them
abbrev pub unread : LinkState → List ℕ
unread link = unwrap_or link.left []

-- the canonical text of a request
abbrev pub question_text : Asked → List ℕ
question_text q = canonical (request_segments q)

-- the exchange of a request, from one stage to a later one
abbrev pub exchange : Asked → Stage → Stage → List ℕ → List ℕ → Exchange
exchange q old new wrote took = record {
  sent = q.request_id;
  text = question_text q;
  wrote = wrote;
  before = old.decoder.taken;
  took = took;
  after = new.held ++ unread new.link;
  faults_before = old.link.faults;
  faults_after = new.link.faults;
}

-- The decoder has taken nothing since its last message, except after an answer that leaves a part of one or a fault.
abbrev pub IsReady : Result Replied ClientFault → Decoding → Type 0
IsReady (Err (Cut place)) decoder = Unit {0}
IsReady (Err (Framing place reason)) decoder = Unit {0}
IsReady (Err ReadFault) decoder = Unit {0}
IsReady answer decoder = Took decoder []

-- The link took what was written and gave bytes; of what the reader held followed by these the decoder took a prefix, and
-- the reader holds the rest. So of a link that reports its bytes, what was taken and what is after it are what the reader
-- held and what the link had. No message stands in the decoder, and the answer is that of the exchange.
pub record Asks (q : Asked) (old new : Stage) (answer : Result Replied ClientFault) : Type 0 where
  pub wrote : List ℕ
  pub gave : List ℕ
  pub took : List ℕ
  pub written : Appends old.link.written new.link.written wrote
  pub taken : Appends old.link.taken new.link.taken gave
  pub left : Consumes old.link.left new.link.left gave
  pub split : old.held ++ gave ≡ took ++ new.held
  pub input : (bytes : List ℕ) → old.link.left ≡ Some bytes
      → old.held ++ bytes ≡ took ++ (new.held ++ unread new.link)
  pub closed : new.link.closed ≡ old.link.closed
  pub later : old.link.faults ≤ new.link.faults
  pub reads : new.link.reads ≤ old.link.reads
  pub limits : new.decoder.limits ≡ old.decoder.limits
  pub count : new.decoder.taken ≡ saturated (old.decoder.taken + length took)
  pub none_stands : IsStanding new.decoder → ⊥
  pub ready : IsReady answer new.decoder
  pub outcome : Outcome old.decoder.limits (exchange q old new wrote took) answer

-- what was read of a message is what is meant, unless memory ran out
abbrev pub IsAnswer : Result Response ClientFault → Result Replied ClientFault → Type 0
IsAnswer (Err Memory) meant = Unit {0}
IsAnswer result meant = meant ≡ answer_of result

-- the fault of another request id, with both, unless memory ran out
abbrev pub IsOtherId : Option (List ℕ) → List ℕ → Result Response ClientFault → Type 0
IsOtherId sent came result = IsAnswer result (Err (OtherId sent came))
