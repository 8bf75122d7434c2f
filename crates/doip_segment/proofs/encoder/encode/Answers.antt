use Rattle.std.proofs.Common.{◌<◌, [], ◌++◌, length, take, ap, sym, ◌∙◌, arith}
use Rattle.std.specs.List.{flat_map}
use Rattle.std.proofs.lemmas.List.{take_more, flat_map_more}
use Rattle.doip_segment.specs.declared.kind.Kind.TheVariants as kinds
use Rattle.doip_segment.specs.Segments.{segment, segment_of}
use Rattle.doip_segment.specs.Canonical.{content_text, segment_text}
use Rattle.doip_segment.proofs.encoder.encode.Goals as goal

pub loop-i-preserved : goal.loop-i-preserved
loop-i-preserved c =
    let segments = c.args.message.now.segments in
    let i = c.loop-i.i in
    let here : i < length segments = omega (arith, c.loop-i-test.true, c.count-i-end.ensures) in
    let next = take_more segments i (segment kinds.Json []) here in
    c.in_ok-append_segment.ensures
    ∙ ap (λ out. out ++ content_text c.kind.result c.bytes.result.now) c.loop-i.invariant
    ∙ ap (λ k. flat_map segment_text (take i segments) ++ content_text k c.bytes.result.now) c.kind.ensures
    ∙ ap (λ bytes. flat_map segment_text (take i segments) ++ content_text (segment_of segments i).kind bytes) c.bytes.ensures
    ∙ flat_map_more segment_text [] (take i segments) (segment_of segments i)
    ∙ sym (ap (flat_map segment_text) next)
