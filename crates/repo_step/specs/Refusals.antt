-- The status and the message of each refusal, as in the table of refusals. This project's own.
use Rattle.std.specs.Prelude.{◌≡◌, ℕ, List, [], ◌++◌, Option, codes, decimal}
use Rattle.doip_json.specs.declared.fault.TextFault.{TextFault}
use Rattle.doip_json.specs.declared.fault.TextFault.TheVariants as json
use Rattle.doip_message.specs.declared.request.FieldName.{FieldName}
use Rattle.doip_message.specs.declared.request.FieldName.TheVariants as names
use Rattle.doip_message.specs.declared.request.Why.{Why}
use Rattle.doip_message.specs.declared.request.Why.TheVariants.{NoSegment, FirstIsBytes, Json, NotTable, Field, TwoInputs, Memory}
use Rattle.doip_message.specs.declared.response.Status.{Status}
use Rattle.doip_message.specs.declared.response.Status.TheVariants as statuses
use Rattle.doip_message.specs.Reply.{Replied, refusal}
use Rattle.dobj_draft.specs.declared.draft.ObjectField.{ObjectField}
use Rattle.dobj_draft.specs.declared.draft.ObjectField.TheVariants as fields
use Rattle.dobj_draft.specs.declared.draft.ObjectFault.{ObjectFault}
use Rattle.dobj_draft.specs.declared.draft.ObjectFault.TheVariants as faults
use Rattle.repo_step.specs.declared.refusal.Refusal.{Refusal}
use Rattle.repo_step.specs.declared.refusal.Refusal.TheVariants.{Invalid, AuthenticationRefused, OperationUnknown, TargetUnknown, NotOffered, AuthenticationNeeded, NotPermitted, ArgumentElement, BadInput, TypeMissing, TypeUnknown, NoBytes, OtherId, OtherType, InUse, CounterSpent, ByExtension, TooManyObjects, LastRevision, TooManyChanges, AreaFull}

-- which property of a request is wrong
abbrev pub field_message : FieldName → List ℕ
field_message names.RequestId = codes "field: requestId"
field_message names.TargetId = codes "field: targetId"
field_message names.OperationId = codes "field: operationId"
field_message names.Attributes = codes "field: attributes"
field_message names.Status = codes "field: status"

-- what is wrong with a text
abbrev pub text_message : TextFault → List ℕ
text_message json.NotJson = codes "not JSON"
text_message json.TooDeep = codes "nested too deep"
text_message json.NotWhole = codes "number is not whole"

-- why a message is no request; out of memory is no fault of the message, and has none
abbrev pub fault_message : Why → List ℕ
fault_message NoSegment = codes "no segment"
fault_message FirstIsBytes = codes "first segment is bytes"
fault_message (Json fault) = codes "first segment: " ++ text_message fault
fault_message NotTable = codes "first segment: not an object"
fault_message (Field name) = field_message name
fault_message TwoInputs = codes "input twice"
fault_message Memory = []

-- which property of an object is wrong
abbrev pub property_message : ObjectField → List ℕ
property_message fields.Id = codes "id"
property_message fields.Type = codes "type"
property_message fields.Attributes = codes "attributes"
property_message fields.Acl = codes "acl"
property_message fields.Elements = codes "elements"
property_message fields.ElementId = codes "element id"
property_message fields.ElementType = codes "element type"
property_message fields.ElementAttributes = codes "element attributes"

-- what is wrong with an input; out of memory is no fault of the input, and has none
abbrev pub input_message : ObjectFault → List ℕ
input_message faults.Missing = codes "missing"
input_message (faults.Segment n) = codes "segment " ++ decimal n
input_message (faults.Json n fault) = codes "segment " ++ (decimal n ++ (codes ": " ++ text_message fault))
input_message faults.NotObject = codes "not an object"
input_message faults.Signatures = codes "signatures"
input_message (faults.BadField name) = property_message name
input_message faults.TooMany = codes "too many elements"
input_message (faults.TwiceElement id) = codes "element twice " ++ id
input_message (faults.Stranger id) = codes "stranger " ++ id
input_message faults.Memory = []

-- the status of a refusal
abbrev pub refusal_status : Refusal → Status
refusal_status (Invalid why) = statuses.Invalid
refusal_status AuthenticationRefused = statuses.NotAuthenticated
refusal_status OperationUnknown = statuses.Declined
refusal_status TargetUnknown = statuses.Unknown
refusal_status NotOffered = statuses.Declined
refusal_status AuthenticationNeeded = statuses.NotAuthenticated
refusal_status NotPermitted = statuses.NotPermitted
refusal_status ArgumentElement = statuses.Invalid
refusal_status (BadInput fault) = statuses.Invalid
refusal_status TypeMissing = statuses.Invalid
refusal_status (TypeUnknown name) = statuses.Invalid
refusal_status (NoBytes id) = statuses.Invalid
refusal_status OtherId = statuses.Invalid
refusal_status OtherType = statuses.Invalid
refusal_status InUse = statuses.InUse
refusal_status CounterSpent = statuses.Invalid
refusal_status (ByExtension reason) = statuses.Invalid
refusal_status TooManyObjects = statuses.Invalid
refusal_status LastRevision = statuses.Invalid
refusal_status TooManyChanges = statuses.Invalid
refusal_status (AreaFull used asked) = statuses.Invalid

-- the message of a refusal
abbrev pub refusal_message : Refusal → List ℕ
refusal_message (Invalid why) = fault_message why
refusal_message AuthenticationRefused = codes "authentication refused"
refusal_message OperationUnknown = codes "operation unknown"
refusal_message TargetUnknown = codes "target unknown"
refusal_message NotOffered = codes "operation not offered here"
refusal_message AuthenticationNeeded = codes "authentication needed"
refusal_message NotPermitted = codes "not permitted"
refusal_message ArgumentElement = codes "argument: element"
refusal_message (BadInput fault) = codes "input: " ++ input_message fault
refusal_message TypeMissing = codes "input: type"
refusal_message (TypeUnknown name) = codes "type unknown: " ++ name
refusal_message (NoBytes id) = codes "input: no bytes for " ++ id
refusal_message OtherId = codes "input: id"
refusal_message OtherType = codes "type cannot change"
refusal_message InUse = codes "identifier in use"
refusal_message CounterSpent = codes "limit: counter"
refusal_message (ByExtension reason) = codes "extension: " ++ reason
refusal_message TooManyObjects = codes "limit: objects"
refusal_message LastRevision = codes "limit: revision"
refusal_message TooManyChanges = codes "limit: changes"
refusal_message (AreaFull used asked) =
    codes "limit: area, " ++ (decimal used ++ (codes " used, " ++ (decimal asked ++ codes " asked")))

-- the reply of a refusal, with the request id that was asked
abbrev pub refused : Option (List ℕ) → Refusal → Replied
refused request_id why = refusal request_id (refusal_status why) (refusal_message why)

-- this is the message of a refusal that always has the same
abbrev pub HasWords : Refusal → List ℕ → Type 0
HasWords (Invalid why) words = Unit {0}
HasWords (BadInput fault) words = Unit {0}
HasWords (TypeUnknown name) words = Unit {0}
HasWords (NoBytes id) words = Unit {0}
HasWords (ByExtension reason) words = Unit {0}
HasWords (AreaFull used asked) words = Unit {0}
HasWords refusal words = words ≡ refusal_message refusal
