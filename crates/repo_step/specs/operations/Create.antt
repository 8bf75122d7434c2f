-- Create (DOIP 2.0, 0.DOIP/Op.Create): an object comes of the input.
use Rattle.std.specs.Prelude.{ℕ, List, map, find, nat_lt, is_none, Option, option_map, unwrap_or, []}
use Rattle.std.specs.FinMap as finite
use Rattle.doip_message.specs.Asked.{Content}
use Rattle.dobj_model.specs.declared.elements.Element.{Element}
use Rattle.dobj_model.specs.declared.metadata.Metadata.{Metadata}
use Rattle.dobj_model.specs.declared.object.ObjectValue.{ObjectValue}
use Rattle.dobj_draft.specs.declared.draft.Draft.{Draft}
use Rattle.dobj_draft.specs.declared.draft.DraftElement.{DraftElement}
use Rattle.acl_core.specs.declared.caller.Caller.{Caller}
use Rattle.record_core.specs.declared.change.Change.TheVariants.{Put}
use Rattle.repo_state.specs.Types.{known_lists}
use Rattle.repo_step.specs.declared.refusal.Refusal.TheVariants.{TypeMissing, TypeUnknown, NoBytes, TooManyObjects}
use Rattle.repo_step.specs.declared.brought.Brought.{Brought}
use Rattle.repo_step.specs.Setting.{Setting, State}
use Rattle.repo_step.specs.Chain.{unless, clear, found, read}
use Rattle.repo_step.specs.Effect.{Attempt, puts}
use Rattle.repo_step.specs.Rights.{may_create, no_right, caller_name}
use Rattle.repo_step.specs.operations.Shared.{drafted}
use Rattle.repo_step.specs.operations.Mint.{named}
use Rattle.repo_step.specs.operations.Limits.{most_objects, within_limits}

-- the identifier of the first element that came without bytes
abbrev pub first_without_bytes : List DraftElement → Option (List ℕ)
first_without_bytes elements = option_map (λ e. e.id) (find (λ e. is_none e.bytes) elements)

-- an element of a draft, with its bytes
abbrev pub element_of : DraftElement → Element
element_of e = record { id = e.id; type_name = e.type_name; attributes = e.attributes; bytes = unwrap_or e.bytes [] }

-- who made an object, at what time, at its creation
abbrev pub first_metadata : List ℕ → ℕ → Metadata
first_metadata name time = record {
  created_by = name;
  created_on = time;
  modified_by = name;
  modified_on = time;
  revision = 1;
}

-- the object that a draft becomes
abbrev pub new_object : List ℕ → List ℕ → Draft → Metadata → ObjectValue
new_object id type_name d metadata = record {
  id = id;
  type_name = type_name;
  attributes = d.attributes;
  metadata = metadata;
  elements = map element_of d.elements;
}

-- The input has to read and to name a known type before the right is asked for; then come its elements' bytes, its
-- identifier, and the limits.
abbrev pub create : Setting → Brought → State → Caller → Content → Attempt
create setting brought s caller input =
    read (drafted input) (λ d.
    found d.type_name TypeMissing (λ type_name.
    found (known_lists s.contents.objects type_name) (TypeUnknown type_name) (λ lists.
    unless (may_create s.contents.objects caller lists) (no_right caller) (
    clear (first_without_bytes d.elements) NoBytes (
    read (named setting s.contents d.id) (λ name.
    let object = new_object name.id type_name d (first_metadata (caller_name caller) brought.time) in
    unless (nat_lt (finite.len s.contents.objects) most_objects) TooManyObjects (
    within_limits s (Put object name.counter) (
    puts object name.counter))))))))
