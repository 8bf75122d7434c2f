-- The response that a message is, or its first fault (the properties are those of DOIP 2.0; the order is this project's
-- own).
use Rattle.std.specs.Prelude.{◌≡◌, ◌≤◌, ℕ, List, [], ◌∷◌, Option, Result, Ok, Err, codes, nat_eq, find, unwrap_or}
use Rattle.std.specs.Cmp.Lexicographic.{pointwise}
use Rattle.doip_json.specs.Value.{Value, table, entries_from, entries_in, depth_of}
use Rattle.doip_json.specs.Read.{reading}
use Rattle.doip_segment.specs.declared.kind.Kind.{Kind}
use Rattle.doip_segment.specs.declared.kind.Kind.TheVariants as kinds
use Rattle.doip_segment.specs.Segments.{Segment}
use Rattle.doip_message.specs.declared.request.FieldName.TheVariants as names
use Rattle.doip_message.specs.declared.request.Why.{Why}
use Rattle.doip_message.specs.declared.request.Why.TheVariants as whys
use Rattle.doip_message.specs.declared.response.Status.{Status}
use Rattle.doip_message.specs.declared.response.Status.TheVariants.{Done, Invalid, NotAuthenticated, NotPermitted, Unknown, InUse, Declined, Other500, Foreign}
use Rattle.doip_message.specs.declared.response.Response.{Response}
use Rattle.doip_message.specs.Reading.{◌>>=◌, property, optional_text, required_text, attributes_in, input_in, object_in, further}
use Rattle.doip_message.specs.Reply.{Replied, replied_of, status_text, first_entries}
use Rattle.doip_exchange.specs.declared.fault.ResponseFault.{ResponseFault}
use Rattle.doip_exchange.specs.declared.fault.ResponseFault.TheVariants as faults
use Rattle.doip_exchange.specs.Question.{IsBrought}

-- how deep a response's first segment may nest
abbrev pub response_depth : ℕ
response_depth = 127

-- the statuses that have an identifier of their own
abbrev pub own_statuses : List Status
own_statuses = Done ∷ Invalid ∷ NotAuthenticated ∷ NotPermitted ∷ Unknown ∷ InUse ∷ Declined ∷ Other500 ∷ []

-- a status that has one
abbrev pub IsOwn : Status → Type 0
IsOwn (Foreign id) = ⊥
IsOwn status = Unit {0}

-- the status of an identifier: a foreign one if it is that of no other
abbrev pub status_named : List ℕ → Status
status_named id = unwrap_or (find (λ status. pointwise nat_eq id (status_text status)) own_statuses) (Foreign id)

-- The properties of a first segment that are read, each absent where it is `null`.
pub record ReplyValues : Type 0 where
  pub request_id : Option Value
  pub status : Option Value
  pub attributes : Option Value
  pub output : Option Value

-- those of a value
abbrev pub reply_values : Value → ReplyValues
reply_values v = record {
  request_id = property (codes "requestId") v;
  status = property (codes "status") v;
  attributes = property (codes "attributes") v;
  output = property (codes "output") v;
}

-- the response of these properties and the segments after the first, the first fault first
unfoldable pub replied_in : ReplyValues → List Segment → Result Replied Why
replied_in p others = do
  request_id ← optional_text names.RequestId p.request_id
  status ← required_text names.Status p.status
  attributes ← attributes_in p.attributes
  output ← input_in p.output others
  Ok (record {
    request_id = request_id;
    status = status_named status;
    attributes = entries_in attributes;
    output = output;
  })

-- the JSON object of one segment, nested at most 127 deep
abbrev pub reply_of_kind : Kind → List ℕ → Result Value Why
reply_of_kind kinds.Bytes bytes = Err whys.FirstIsBytes
reply_of_kind kinds.Json bytes = object_in (reading bytes response_depth)

-- that of the first segment
abbrev pub reply_object : List Segment → Result Value Why
reply_object [] = Err whys.NoSegment
reply_object (s ∷ ss) = reply_of_kind s.kind s.bytes

-- the response of these segments, as the reading of a request names its faults
abbrev pub reply_in : List Segment → Result Replied Why
reply_in segments = reply_object segments >>= (λ v. replied_in (reply_values v) (further segments))

-- the fault of a response that goes by the same name
abbrev pub fault_named : Why → ResponseFault
fault_named whys.NoSegment = faults.NoSegment
fault_named whys.FirstIsBytes = faults.FirstIsBytes
fault_named (whys.Json fault) = faults.Json fault
fault_named whys.NotTable = faults.NotTable
fault_named (whys.Field name) = faults.Field name
fault_named whys.TwoInputs = faults.TwoOutputs
fault_named whys.Memory = faults.Memory

-- with the fault of a response
abbrev pub with_fault : Result Replied Why → Result Replied ResponseFault
with_fault (Ok p) = Ok p
with_fault (Err why) = Err (fault_named why)

-- the response that these segments are, or its first fault
abbrev pub response : List Segment → Result Replied ResponseFault
response segments = with_fault (reply_in segments)

-- the fault is the one that is meant, unless it is out of memory
abbrev pub FailsSo : ResponseFault → Result Replied ResponseFault → Type 0
FailsSo faults.Memory meant = Unit {0}
FailsSo fault meant = meant ≡ Err fault

-- What was read is what is meant, or its fault is, unless memory ran out.
abbrev pub IsResponse : Result Response ResponseFault → Result Replied ResponseFault → Type 0
IsResponse (Ok response) meant = meant ≡ Ok (replied_of response)
IsResponse (Err fault) meant = FailsSo fault meant

-- the JSON object of a response's first segment
abbrev pub answer_value : Replied → Value
answer_value p = table (entries_from (first_entries p))

-- A response that can be read: no foreign status has the identifier of another, the output isn't taken for none, and the
-- first segment nests no deeper than a reader lets it.
pub record IsReadable (p : Replied) : Type 0 where
  pub status : status_named (status_text p.status) ≡ p.status
  pub output : IsBrought p.output
  pub nesting : depth_of (answer_value p) ≤ response_depth
