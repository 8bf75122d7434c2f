-- Update (DOIP 2.0, 0.DOIP/Op.Update): the input takes the place of attributes and elements.
use Rattle.std.specs.Prelude.{ℕ, ◌+◌, List, [], map, find, nat_lt, Bool, true, ◌&&◌, is_none, Option, Some, None, option_map, unwrap_or}
use Rattle.doip_message.specs.Asked.{Content}
use Rattle.dobj_model.specs.declared.elements.Element.{Element}
use Rattle.dobj_model.specs.declared.metadata.Metadata.{Metadata}
use Rattle.dobj_model.specs.declared.object.ObjectValue.{ObjectValue}
use Rattle.dobj_draft.specs.declared.draft.Draft.{Draft}
use Rattle.dobj_draft.specs.declared.draft.DraftElement.{DraftElement}
use Rattle.acl_core.specs.declared.caller.Caller.{Caller}
use Rattle.acl_core.specs.declared.rights.Right.TheVariants.{Write}
use Rattle.record_core.specs.declared.change.Change.TheVariants.{Put}
use Rattle.repo_state.specs.Groups.{is_text}
use Rattle.repo_step.specs.declared.refusal.Refusal.TheVariants.{OtherId, OtherType, NoBytes, LastRevision}
use Rattle.repo_step.specs.declared.brought.Brought.{Brought}
use Rattle.repo_step.specs.Setting.{State}
use Rattle.repo_step.specs.Chain.{unless, clear, read}
use Rattle.repo_step.specs.Effect.{Attempt, puts}
use Rattle.repo_step.specs.Rights.{may, no_right, caller_name}
use Rattle.repo_step.specs.operations.Shared.{drafted}
use Rattle.repo_step.specs.operations.Limits.{last_revision, within_limits}
use Rattle.repo_step.specs.operations.Retrieve.{element_called}

-- absent, or the same
abbrev pub is_same_if_there : Option (List ℕ) → List ℕ → Bool
is_same_if_there None name = true
is_same_if_there (Some other) name = is_text other name

-- the stored bytes of an element
abbrev pub stored_bytes : List ℕ → ObjectValue → Option (List ℕ)
stored_bytes id o = option_map (λ e. e.bytes) (element_called id o)

-- the same, none where the element isn't stored
abbrev pub bytes_stored : List ℕ → ObjectValue → List ℕ
bytes_stored id o = unwrap_or (stored_bytes id o) []

-- an element that comes without bytes, and of which none are stored
abbrev pub lacks_bytes : ObjectValue → DraftElement → Bool
lacks_bytes o e = is_none e.bytes && is_none (element_called e.id o)

-- the identifier of the first such element
abbrev pub first_lacking : ObjectValue → List DraftElement → Option (List ℕ)
first_lacking o elements = option_map (λ e. e.id) (find (lacks_bytes o) elements)

-- an element of a draft with its bytes, or else with those that are stored
abbrev pub element_after : ObjectValue → DraftElement → Element
element_after o e = record {
  id = e.id;
  type_name = e.type_name;
  attributes = e.attributes;
  bytes = unwrap_or e.bytes (bytes_stored e.id o);
}

-- who changed an object and when: its creation stays, and the revision is one more
abbrev pub next_metadata : Metadata → List ℕ → ℕ → Metadata
next_metadata m name time = record {
  created_by = m.created_by;
  created_on = m.created_on;
  modified_by = name;
  modified_on = time;
  revision = m.revision + 1;
}

-- the object afterwards
abbrev pub updated : ObjectValue → Draft → Metadata → ObjectValue
updated o d metadata = record {
  id = o.id;
  type_name = o.type_name;
  attributes = d.attributes;
  metadata = metadata;
  elements = map (element_after o) d.elements;
}

-- The right to write, the input, the identifier and the type that stay, the elements' bytes, and the limits.
abbrev pub update : Brought → State → Caller → Content → ObjectValue → Attempt
update brought s caller input o =
    unless (may s.contents.objects caller Write o) (no_right caller) (
    read (drafted input) (λ d.
    unless (is_same_if_there d.id o.id) OtherId (
    unless (is_same_if_there d.type_name o.type_name) OtherType (
    clear (first_lacking o d.elements) NoBytes (
    let object = updated o d (next_metadata o.metadata (caller_name caller) brought.time) in
    unless (nat_lt o.metadata.revision last_revision) LastRevision (
    within_limits s (Put object None) (
    puts object None)))))))
