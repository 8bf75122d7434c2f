-- What an input that a message brings can become. This project's own.
use Rattle.std.specs.Prelude.{◌≤◌, ℕ, List, length, All, ⊤}
use Rattle.doip_json.specs.Value.{Value}
use Rattle.doip_segment.specs.Framing.{most_total}
use Rattle.doip_segment.specs.Segments.{Segment}
use Rattle.doip_message.specs.Asked.{Content, no_content, one_value, parts}
use Rattle.dobj_model.specs.declared.elements.Element.{Element}
use Rattle.dobj_model.specs.declared.metadata.Metadata.{Metadata}
use Rattle.dobj_model.specs.declared.object.ObjectValue.{ObjectValue}
use Rattle.dobj_model.specs.Elements.{AreElements}
use Rattle.dobj_model.specs.Object.{IsObject}
use Rattle.dobj_draft.specs.declared.draft.Draft.{Draft}
use Rattle.dobj_draft.specs.Made.{IsBrought, IsWithin, AreListed, AreSmall, IsMadeOf}

-- each segment is no longer than a message may be
abbrev pub AreShort : List Segment → Type 0
AreShort = All (λ s. length s.bytes ≤ most_total)

-- an input that a message brings
abbrev pub IsBroughtContent : Content → Type 0
IsBroughtContent no_content = ⊤
IsBroughtContent (one_value v) = IsBrought v
IsBroughtContent (parts ss) = AreShort ss

-- an object of these parts
abbrev pub object_with : List ℕ → List ℕ → List (List ℕ × Value) → Metadata → List Element → ObjectValue
object_with id type_name attributes metadata elements = record {
  id = id;
  type_name = type_name;
  attributes = attributes;
  metadata = metadata;
  elements = elements;
}

-- A draft of which an object can be made.
pub record CanBecome (d : Draft) : Type 0 where
  pub within : IsWithin d
  pub elements : (es : List Element) → AreListed d.elements es → AreSmall es → AreElements es
  pub objects : (o : ObjectValue) → IsMadeOf d o → IsObject o
