use Rattle.std.proofs.Common.{◌≡◌, false, sym, ap, ◌∙◌, subst, drop}
use Rattle.dobj_field.proofs.PointerLemmas.{rest_is}
use Rattle.query_text.specs.Spelling.{after_value}
use Rattle.query_text.specs.Reading.{BreaksValue}
use Rattle.query_text.proofs.WordReads.{value_unfollowed}
use Rattle.query_text.proofs.value.value_of.Goals as goal

pub returns-else-is_after_value-clause-place : goal.returns-else-is_after_value-clause-place
returns-else-is_after_value-clause-place c place is =
    let text = c.args.rest.now in
    let len = c.in-Ok.len in
    let same : len ≡ place = cc in
    let wrong : after_value (drop len text) ≡ false =
    ap after_value (sym (rest_is text len)) ∙ (sym c.is_after_value.ensures ∙ c.if-is_after_value.false) in
    subst (BreaksValue text) same (value_unfollowed text c.in-Ok.test len c.in-Ok.ensures.value wrong)
