-- Retrieve (DOIP 2.0, 0.DOIP/Op.Retrieve): an object, an element's bytes, or both.
use Rattle.std.specs.Prelude.{ℕ, List, [], ◌∷◌, find, nat_eq, codes, Bool, true, false, not, ◌&&◌, if◌then◌else◌, Option, Some, None, Err}
use Rattle.std.specs.Cmp.Lexicographic.{pointwise}
use Rattle.doip_json.specs.Value.{Value, truth, text, Entries}
use Rattle.doip_segment.specs.declared.kind.Kind.TheVariants as kinds
use Rattle.doip_segment.specs.Segments.{segment}
use Rattle.doip_message.specs.Asked.{Content, one_value, parts}
use Rattle.dobj_model.specs.declared.elements.Element.{Element}
use Rattle.dobj_model.specs.declared.object.ObjectValue.{ObjectValue}
use Rattle.dobj_model.specs.Shown.{shown_form}
use Rattle.dobj_model.specs.Parts.{object_segments}
use Rattle.acl_core.specs.declared.caller.Caller.{Caller}
use Rattle.acl_core.specs.declared.rights.Right.TheVariants.{Read}
use Rattle.repo_state.specs.Groups.{is_text}
use Rattle.repo_step.specs.declared.refusal.Refusal.TheVariants.{ArgumentElement}
use Rattle.repo_step.specs.Setting.{State}
use Rattle.repo_step.specs.Chain.{unless, found}
use Rattle.repo_step.specs.Effect.{Attempt, outputs}
use Rattle.repo_step.specs.Rights.{may, no_right}
use Rattle.repo_step.specs.operations.Shared.{argument}

-- an element of the object
abbrev pub element_called : List ℕ → ObjectValue → Option Element
element_called id o = find (λ e. pointwise nat_eq e.id id) o.elements

-- the argument asks for the elements' bytes: it is there, and neither false nor "false"
abbrev pub asks_for_bytes : Option Value → Bool
asks_for_bytes None = false
asks_for_bytes (Some (truth b)) = b
asks_for_bytes (Some (text s)) = not (is_text s (codes "false"))
asks_for_bytes (Some v) = true

-- there is an element
abbrev pub has_elements : List Element → Bool
has_elements [] = false
has_elements (e ∷ es) = true

-- the shown form, with the elements' bytes where they are asked for and there is one
abbrev pub form_of : ObjectValue → Bool → Content
form_of o with_bytes =
    if with_bytes && has_elements o.elements then parts (object_segments o) else one_value (shown_form o)

-- the bytes of an element, as a segment
abbrev pub element_content : Element → Content
element_content e = parts (segment kinds.Bytes e.bytes ∷ [])

-- an element of the object, by its identifier
abbrev pub element_shown : ObjectValue → List ℕ → Attempt
element_shown o id =
    found (element_called id o) ArgumentElement (λ e.
    outputs (element_content e))

-- the argument that asks for the elements' bytes
abbrev pub bytes_argument : Entries → Option Value
bytes_argument arguments = argument (codes "includeElementData") arguments

-- the element that an argument names, or the whole where there is none
abbrev pub retrieved : ObjectValue → Entries → Option Value → Attempt
retrieved o arguments None = outputs (form_of o (asks_for_bytes (bytes_argument arguments)))
retrieved o arguments (Some (text id)) = element_shown o id
retrieved o arguments (Some v) = Err ArgumentElement

-- The right to read, and then what the arguments ask for.
abbrev pub retrieve : State → Caller → Entries → ObjectValue → Attempt
retrieve s caller arguments o =
    unless (may s.contents.objects caller Read o) (no_right caller) (
    retrieved o arguments (argument (codes "element") arguments))
