use Rattle.std.proofs.Common.{◌++◌, ap, ◌∙◌}
use Rattle.std.specs.List.{flat_map}
use Rattle.std.proofs.lemmas.List.{take_all}
use Rattle.doip_segment.specs.Canonical.{segment_text}
use Rattle.dobj_model.specs.Parts.{element_segments}
use Rattle.repo_step.proofs.ListLemmas.{segments_next}
use Rattle.repo_step.proofs.planned.append_elements.Goals as goal

pub loop-element-preserved : goal.loop-element-preserved
loop-element-preserved c =
    segments_next c.args.elements.now c.loop-element.element-index c.element-item.result c.loop-element-test.true c.element-item.is
    c.args.out.now.items c.loop-element.out.items c.append_name.new.out.items c.append_segment.new.out.items c.get.result.now c.get-in-loop-element.result.now
    c.loop-element.invariant c.get.ensures.text c.in_ok-append_name.ensures c.get-in-loop-element.ensures c.in_ok-append_segment.ensures

pub returns : goal.returns
returns c =
    c.loop-element.invariant
    ∙ ap (λ es. c.args.out.now.items ++ flat_map segment_text (flat_map element_segments es))
    (take_all c.loop-element.element-index c.args.elements.now c.loop-element-test.false)
