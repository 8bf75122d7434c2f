-- One step of the repository (the operations are those of DOIP 2.0; the order of refusals is this project's own).
use Rattle.std.specs.Prelude.{ℕ, ◌+◌, List, length, Option, Some, None, option_map, Result, Ok, Err, if◌then◌else◌}
use Rattle.std.specs.FinMap as map
use Rattle.doip_segment.specs.Segments.{Segment}
use Rattle.doip_message.specs.declared.request.RequestFault.{RequestFault}
use Rattle.doip_message.specs.Asked.{Asked, Properties}
use Rattle.doip_message.specs.Reading.{request}
use Rattle.doip_message.specs.Reply.{Replied, done}
use Rattle.dobj_model.specs.declared.object.ObjectValue.{ObjectValue}
use Rattle.acl_core.specs.declared.caller.Caller.{Caller}
use Rattle.acl_core.specs.Caller.{caller_in}
use Rattle.ext_ops.specs.declared.code.ExtCode.{ExtCode}
use Rattle.journal_core.specs.declared.journal.Room.{Room}
use Rattle.journal_core.specs.declared.records.Stamp.{Stamp}
use Rattle.record_core.specs.declared.change.Change.{Change}
use Rattle.record_core.specs.Body.{body}
use Rattle.repo_state.specs.Contents.{apply}
use Rattle.repo_state.specs.Groups.{is_text}
use Rattle.repo_step.specs.declared.brought.Brought.{Brought}
use Rattle.repo_step.specs.declared.operation.Operation.{Operation}
use Rattle.repo_step.specs.declared.operation.Operation.TheVariants as operations
use Rattle.repo_step.specs.declared.refusal.Refusal.{Refusal}
use Rattle.repo_step.specs.declared.refusal.Refusal.TheVariants.{Invalid, AuthenticationRefused, OperationUnknown, TargetUnknown, NotOffered}
use Rattle.repo_step.specs.Setting.{Setting, State, state, information_of}
use Rattle.repo_step.specs.Chain.{found, read}
use Rattle.repo_step.specs.Effect.{Attempt, shows}
use Rattle.repo_step.specs.Refusals.{refused}
use Rattle.repo_step.specs.operations.Names.{operation_in}
use Rattle.repo_step.specs.operations.Create.{create}
use Rattle.repo_step.specs.operations.Retrieve.{retrieve}
use Rattle.repo_step.specs.operations.Update.{update}
use Rattle.repo_step.specs.operations.Delete.{delete}
use Rattle.repo_step.specs.operations.ListOperations.{list_service, list_object}
use Rattle.repo_step.specs.operations.Extended.{extended}

-- what a request is for: the service, or an object
pub data Target : Type 0 where
  at_service : Target
  at_object : ObjectValue → Target

-- the service, or the object with the identifier
abbrev pub target_in : Setting → State → List ℕ → Option Target
target_in setting s id =
    if is_text id setting.service then Some at_service else option_map at_object (map.get s.contents.objects id)

-- an operation on what it is offered on
pub data Offer : Type 0 where
  to_say_hello : Offer
  to_list_service : Offer
  to_create : Offer
  to_list : ObjectValue → Offer
  to_retrieve : ObjectValue → Offer
  to_update : ObjectValue → Offer
  to_delete : ObjectValue → Offer
  to_extend : ExtCode → ObjectValue → Offer

-- the offer of an operation on a target, if it is offered there
abbrev pub offer_on : Operation → Target → Option Offer
offer_on operations.Hello at_service = Some to_say_hello
offer_on operations.ListOperations at_service = Some to_list_service
offer_on operations.Create at_service = Some to_create
offer_on operations.ListOperations (at_object o) = Some (to_list o)
offer_on operations.Retrieve (at_object o) = Some (to_retrieve o)
offer_on operations.Update (at_object o) = Some (to_update o)
offer_on operations.Delete (at_object o) = Some (to_delete o)
offer_on (operations.Extended code) (at_object o) = Some (to_extend code o)
offer_on operation target = None

-- what an offer comes to, a line each
abbrev pub perform : Setting → Brought → State → Caller → Properties → Offer → Attempt
perform setting brought s caller asked to_say_hello = shows (information_of setting)
perform setting brought s caller asked to_list_service = list_service
perform setting brought s caller asked to_create = create setting brought s caller asked.input
perform setting brought s caller asked (to_list o) = list_object setting s caller o
perform setting brought s caller asked (to_retrieve o) = retrieve s caller asked.attributes o
perform setting brought s caller asked (to_update o) = update brought s caller asked.input o
perform setting brought s caller asked (to_delete o) = delete s caller o
perform setting brought s caller asked (to_extend code o) = extended code s caller asked.attributes o

-- an operation that isn't offered on its target is refused
abbrev pub offered : Setting → Brought → State → Caller → Properties → Option Offer → Attempt
offered setting brought s caller asked offer =
    found offer NotOffered (λ o.
    perform setting brought s caller asked o)

-- The refusals of a request in order, a row a line; after them come those of its operation.
abbrev pub accepted : Setting → Brought → State → Properties → Attempt
accepted setting brought s asked =
    found (caller_in setting.accounts asked.authentication) AuthenticationRefused (λ caller.
    found (operation_in setting asked.operation_id) OperationUnknown (λ operation.
    found (target_in setting s asked.target_id) TargetUnknown (λ target.
    offered setting brought s caller asked (offer_on operation target))))

-- a message that is no request is refused for its first fault
abbrev pub valid : Result Asked RequestFault → Result Asked Refusal
valid (Ok asked) = Ok asked
valid (Err fault) = Err (Invalid fault.why)

-- The whole table of refusals, from what was read of the message.
abbrev pub attempt : Setting → Brought → State → Result Asked RequestFault → Attempt
attempt setting brought s meant =
    read (valid meant) (λ asked.
    accepted setting brought s asked.properties)

-- the request id that the reply carries
abbrev pub request_id_of : Result Asked RequestFault → Option (List ℕ)
request_id_of (Ok asked) = asked.request_id
request_id_of (Err fault) = fault.request_id

-- What a step comes to: the reply, and the change, if there is one.
pub record Plan : Type 0 where
  pub reply : Replied
  pub change : Option Change

-- An operation that is accepted replies with its output; a refusal changes nothing.
abbrev pub plan_with : Option (List ℕ) → Attempt → Plan
plan_with request_id (Ok effect) = record { reply = done request_id effect.output; change = effect.change }
plan_with request_id (Err refusal) = record { reply = refused request_id refusal; change = None }

-- the plan for what was read of a message
abbrev pub plan_of : Setting → Brought → State → Result Asked RequestFault → Plan
plan_of setting brought s meant = plan_with (request_id_of meant) (attempt setting brought s meant)

-- the reply to a message and its change
abbrev pub step : Setting → Brought → State → List Segment → Plan
step setting brought s message = plan_of setting brought s (request message)

-- ---- the state after a change

-- what a record takes of an area beside its body
abbrev pub record_takes : ℕ
record_takes = 57

-- the stamp of the next change: the number after the last, and the time of its turn
abbrev pub next_stamp : Brought → State → Stamp
next_stamp brought s = record { number = s.contents.number + 1; time = brought.time }

-- the room after a change
abbrev pub room_after : Change → Option Room → Option Room
room_after change None = None
room_after change (Some room) =
    Some (record { used = room.used + length (body change) + record_takes; area = room.area })

-- the state after a change, or after none
abbrev pub after_change : Brought → Option Change → State → State
after_change brought None s = s
after_change brought (Some change) s =
    state (apply (record { stamp = next_stamp brought s; change = change }) s.contents) (room_after change s.room)
