use Rattle.std.proofs.Common.{◌≡◌, ◌∷◌, take, flat_map}
use Rattle.doip_json.specs.Text.{text_of}
use Rattle.doip_segment.specs.declared.kind.Kind.TheVariants as kinds
use Rattle.doip_segment.specs.Segments.{segment}
use Rattle.dobj_model.specs.Parts.{element_segments}
use Rattle.dobj_model.specs.Shown.{shown_form}
use Rattle.dobj_model.proofs.parts.object_parts.Given as goal

abbrev pub invariant-loop-i : goal.invariant-loop-i
invariant-loop-i l =
    l.parts.segments ≡ segment kinds.Json (text_of (shown_form l.object)) ∷ flat_map element_segments
    (take l.i l.elements)
