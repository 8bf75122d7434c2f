-- An object as segments: its shown form, and for each element its identifier and its bytes (DOIP 2.0, serialization of
-- digital objects with the bytes of their elements).
use Rattle.std.specs.Prelude.{List, [], ◌∷◌, codes, flat_map}
use Rattle.doip_json.specs.Value.{Value, text}
use Rattle.doip_json.specs.Text.{text_of}
use Rattle.doip_segment.specs.declared.kind.Kind.TheVariants as kinds
use Rattle.doip_segment.specs.Segments.{Segment, segment}
use Rattle.dobj_model.specs.declared.elements.Element.{Element}
use Rattle.dobj_model.specs.declared.object.ObjectValue.{ObjectValue}
use Rattle.dobj_model.specs.Shown.{object_with, shown_form}

-- what names the element whose bytes come next
abbrev pub element_name : Element → Value
element_name e = object_with ((codes "id", text e.id) ∷ [])

-- the two segments of an element
abbrev pub element_segments : Element → List Segment
element_segments e = segment kinds.Json (text_of (element_name e)) ∷ segment kinds.Bytes e.bytes ∷ []

-- those of an object
abbrev pub object_segments : ObjectValue → List Segment
object_segments o = segment kinds.Json (text_of (shown_form o)) ∷ flat_map element_segments o.elements
