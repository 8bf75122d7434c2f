use Rattle.std.proofs.Common.{◌≡◌, ◌++◌, take}
use Rattle.std.specs.List.{flat_map}
use Rattle.doip_segment.specs.Canonical.{segment_text}
use Rattle.dobj_model.specs.Parts.{element_segments}
use Rattle.repo_step.proofs.planned.append_elements.Given as goal

-- the segments of the elements so far were added
abbrev pub invariant-loop-element : goal.invariant-loop-element
invariant-loop-element l =
    l.out.items ≡ l.initial.out.items ++ flat_map segment_text (flat_map element_segments (take l.element-index l.elements))
