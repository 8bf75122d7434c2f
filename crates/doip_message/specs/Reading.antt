-- The request that a message is, or its first fault (the properties are those of DOIP 2.0; the order is this project's
-- own).
use Rattle.std.specs.Prelude.{◌≡◌, ℕ, List, [], ◌∷◌, Option, None, Some, Result, Ok, Err, codes}
use Rattle.doip_json.specs.declared.fault.TextFault.{TextFault}
use Rattle.doip_json.specs.Value.{Value, null, text, table, Entries, no_entries}
use Rattle.doip_json.specs.Look.{field_of}
use Rattle.doip_json.specs.Read.{reading}
use Rattle.doip_segment.specs.declared.kind.Kind.{Kind}
use Rattle.doip_segment.specs.declared.kind.Kind.TheVariants as kinds
use Rattle.doip_segment.specs.Segments.{Segment}
use Rattle.doip_message.specs.declared.request.FieldName.{FieldName}
use Rattle.doip_message.specs.declared.request.FieldName.TheVariants as names
use Rattle.doip_message.specs.declared.request.Why.{Why}
use Rattle.doip_message.specs.declared.request.Why.TheVariants.{NoSegment, FirstIsBytes, Json, NotTable, Field, TwoInputs, Memory}
use Rattle.doip_message.specs.declared.request.Request.{Request}
use Rattle.doip_message.specs.declared.request.RequestFault.{RequestFault}
use Rattle.doip_message.specs.Asked.{Content, no_content, one_value, parts, Properties, Asked, asked_of}

-- how deep a request's first segment may nest
abbrev pub request_depth : ℕ
request_depth = 64

infixl 10 ◌>>=◌
-- the first fault, or what comes of the value
abbrev pub ◌>>=◌ : {A B : Type 0} → Result A Why → (A → Result B Why) → Result B Why
(Ok x) >>= f = f x
(Err why) >>= f = Err why

-- `null` counts as absent
abbrev pub unless_null : Option Value → Option Value
unless_null None = None
unless_null (Some null) = None
unless_null (Some v) = Some v

-- the value of a property that is there
abbrev pub property : List ℕ → Value → Option Value
property key v = unless_null (field_of key v)

-- a text that may be absent
abbrev pub optional_text : FieldName → Option Value → Result (Option (List ℕ)) Why
optional_text name None = Ok None
optional_text name (Some (text s)) = Ok (Some s)
optional_text name (Some v) = Err (Field name)

-- a text that has to be there
abbrev pub required_text : FieldName → Option Value → Result (List ℕ) Why
required_text name (Some (text s)) = Ok s
required_text name v = Err (Field name)

-- a JSON object, empty where it is absent
abbrev pub attributes_in : Option Value → Result Entries Why
attributes_in None = Ok no_entries
attributes_in (Some (table es)) = Ok es
attributes_in (Some v) = Err (Field names.Attributes)

-- who asks: an empty JSON object counts as absent
abbrev pub authentication_in : Option Value → Option Value
authentication_in (Some (table no_entries)) = None
authentication_in v = v

-- the input: the property, or the segments after the first, and not both
abbrev pub input_in : Option Value → List Segment → Result Content Why
input_in None [] = Ok no_content
input_in None (s ∷ ss) = Ok (parts (s ∷ ss))
input_in (Some v) [] = Ok (one_value v)
input_in (Some v) (s ∷ ss) = Err TwoInputs

-- The properties of a first segment that are read, each absent where it is `null`.
pub record PropertyValues : Type 0 where
  pub request_id : Option Value
  pub target_id : Option Value
  pub operation_id : Option Value
  pub attributes : Option Value
  pub authentication : Option Value
  pub input : Option Value

-- those of a value
abbrev pub property_values : Value → PropertyValues
property_values v = record {
  request_id = property (codes "requestId") v;
  target_id = property (codes "targetId") v;
  operation_id = property (codes "operationId") v;
  attributes = property (codes "attributes") v;
  authentication = property (codes "authentication") v;
  input = property (codes "input") v;
}

-- the properties after the request id, the first fault first
unfoldable pub properties_in : PropertyValues → List Segment → Result Properties Why
properties_in p others = do
  target ← required_text names.TargetId p.target_id
  operation ← required_text names.OperationId p.operation_id
  attributes ← attributes_in p.attributes
  input ← input_in p.input others
  Ok (record {
    target_id = target;
    operation_id = operation;
    attributes = attributes;
    authentication = authentication_in p.authentication;
    input = input;
  })

-- a fault that carries the request id, if there is one
abbrev pub fault_with : Option (List ℕ) → Why → RequestFault
fault_with request_id why = record { request_id = request_id; why = why }

-- A fault of the request id itself carries none; a later one carries it.
abbrev pub with_request_id : Result (Option (List ℕ)) Why → Result Properties Why → Result Asked RequestFault
with_request_id (Err why) properties = Err (fault_with None why)
with_request_id (Ok request_id) (Err why) = Err (fault_with request_id why)
with_request_id (Ok request_id) (Ok properties) = Ok (record { request_id = request_id; properties = properties })

-- the JSON object that a value is
abbrev pub object_in : Result Value TextFault → Result Value Why
object_in (Err fault) = Err (Json fault)
object_in (Ok (table es)) = Ok (table es)
object_in (Ok v) = Err NotTable

-- the JSON object of one segment, nested at most 64 deep
abbrev pub object_of_kind : Kind → List ℕ → Result Value Why
object_of_kind kinds.Bytes bytes = Err FirstIsBytes
object_of_kind kinds.Json bytes = object_in (reading bytes request_depth)

-- that of the first segment
abbrev pub first_object : List Segment → Result Value Why
first_object [] = Err NoSegment
first_object (s ∷ ss) = object_of_kind s.kind s.bytes

-- the segments after the first
abbrev pub further : List Segment → List Segment
further [] = []
further (s ∷ ss) = ss

-- the request of a first segment's JSON object and the segments after it
abbrev pub request_with : Result Value Why → List Segment → Result Asked RequestFault
request_with (Err why) others = Err (fault_with None why)
request_with (Ok v) others =
    let p = property_values v in with_request_id (optional_text names.RequestId p.request_id) (properties_in p others)

-- the request that these segments spell, or its first fault
abbrev pub request : List Segment → Result Asked RequestFault
request segments = request_with (first_object segments) (further segments)

-- the fault is the one that is meant, unless it is out of memory
abbrev pub Fails : {Y E : Type 0} → Why → E → Result Y E → Type 0
Fails Memory fault meant = Unit {0}
Fails why fault meant = meant ≡ Err fault

-- What was read, seen by view, is what is meant, or its fault is, unless memory ran out.
abbrev pub Reads : {X Y : Type 0} → (X → Y) → Result X Why → Result Y Why → Type 0
Reads view (Ok x) meant = meant ≡ Ok (view x)
Reads view (Err why) meant = Fails why why meant

-- the same of a whole request, whose fault may carry the request id
abbrev pub IsRequest : Result Request RequestFault → Result Asked RequestFault → Type 0
IsRequest (Ok q) meant = meant ≡ Ok (asked_of q)
IsRequest (Err fault) meant = Fails fault.why fault meant
