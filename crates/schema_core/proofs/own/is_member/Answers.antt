use Rattle.std.proofs.Common.{◌≡◌, Some, true≢false, refl, sym, ap, ◌∙◌, arith, below_more}
use Rattle.std.proofs.lemmas.Option.{slice_get_within, get_or_from_slice_get, slice_get-get_or}
use Rattle.doip_json.specs.Meaning.{value_of}
use Rattle.schema_core.proofs.own.is_member.Goals as goal

pub returns-then-is_same : goal.returns-then-is_same
returns-then-is_same c =
    let xs = c.args.members.now in
    let v = value_of c.args.value.now in
    let here = c.item.ensures ∙ ap Some (c.is_same.ensures.0 c.if-is_same.true) in
    (λ yes. (c.loop-i.i, slice_get_within xs c.loop-i.i v here, get_or_from_slice_get xs c.loop-i.i v v here), λ has. refl)

pub loop-i-preserved : goal.loop-i-preserved
loop-i-preserved c =
    below_more _ _ c.loop-i.invariant
    (λ same. let one : Some (value_of c.item.result.now) ≡ Some (value_of c.args.value.now) = sym c.item.ensures ∙ same in
    let equal : value_of c.item.result.now ≡ value_of c.args.value.now = cc in
    true≢false (sym (c.is_same.ensures.1 equal) ∙ c.if-is_same.false))

pub returns : goal.returns
returns c =
    let xs = c.args.members.now in
    let v = value_of c.args.value.now in
    (λ no. absurd (cc), λ has. absurd (c.loop-i.invariant has.0 (omega (arith, has.1)) (slice_get-get_or xs has.0 v has.1 ∙ ap Some has.2)))
