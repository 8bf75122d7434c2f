use Rattle.std.proofs.Common.{◌≤◌, ◌≡◌, length, [], ◌∷◌, ◌++◌, ap, sym, ◌∙◌, subst, arith, length-append}
use Rattle.doip_segment.specs.Segments.{segment}
use Rattle.doip_segment.specs.Place.{segments_in, AreWithin}
use Rattle.doip_segment.proofs.PlaceLemmas.{pushed_segments, AreWithin-more, AreWithin-append}
use Rattle.doip_segment.proofs.message.Message.push.Goals as goal

pub invariant_of-self-2 : goal.invariant_of-self-2
invariant_of-self-2 c =
    let table = c.in_ok-push.ensures.items ∙ ap (λ es. es ++ record { kind = c.args.kind; start = c.len-start.result; end = c.len-end.result } ∷ []) c.in_ok-reserve.ensures.items in
    let grown = ap length c.in_ok-extend_from_slice.ensures.items ∙ length-append c.self.inside.contents.items c.args.bytes.now in
    let high : c.self.inside.start ≤ c.len-end.result = omega (arith, grown, c.self.invariant.0, c.len-end.ensures) in
    let order : c.len-start.result ≤ c.len-end.result = omega (arith, grown, c.len-start.ensures, c.len-end.ensures) in
    let old = AreWithin-more c.self.inside.start c.len-end.result c.self.inside.extents.items high c.self.invariant.1 in
    let all = AreWithin-append c.len-end.result c.self.inside.extents.items (record { kind = c.args.kind; start = c.len-start.result; end = c.len-end.result }) old order (omega arith) in
    (omega (arith, c.len-end.ensures), subst (AreWithin c.len-end.result) (sym table) all)

pub returns-clause-ok : goal.returns-clause-ok
returns-clause-ok c =
    let table = c.in_ok-push.ensures.items ∙ ap (λ es. es ++ record { kind = c.args.kind; start = c.len-start.result; end = c.len-end.result } ∷ []) c.in_ok-reserve.ensures.items in
    let from : c.len-start.result ≡ length c.self.inside.contents.items = omega (arith, c.len-start.ensures) in
    let to : c.len-end.result ≡ length (c.self.inside.contents.items ++ c.args.bytes.now) = omega (arith, c.len-end.ensures, ap length c.in_ok-extend_from_slice.ensures.items) in
    ap (λ contents. segments_in contents c.push.new.self.items) c.in_ok-extend_from_slice.ensures.items
    ∙ ap (segments_in (c.self.inside.contents.items ++ c.args.bytes.now)) table
    ∙ pushed_segments c.self.inside.contents.items c.args.bytes.now c.self.inside.extents.items c.args.kind c.self.inside.start c.len-start.result c.len-end.result c.self.invariant.1 c.self.invariant.0 from to
    ∙ ap (λ h. h.segments ++ segment c.args.kind c.args.bytes.now ∷ []) c.self.view_is
