use Rattle.std.proofs.Common.{◌≡◌, ◌-◌, ◌++◌, length, take, drop, Err, ap, sym, ◌∙◌}
use Rattle.std.proofs.lemmas.List.{take-append-drop}
use Rattle.dobj_field.proofs.PointerLemmas.{rest_is}
use Rattle.query_text.specs.declared.parts.Stop.TheVariants.{White}
use Rattle.query_core.specs.declared.sorting.OrderFault.TheVariants.{Refused}
use Rattle.query_text.specs.Parts.{untaken, past_white}
use Rattle.query_core.specs.Sorting.{direction_in}
use Rattle.query_text.proofs.CutLemmas.{split_white, stop_after, utf8_past_white, utf8_before_stop}
use Rattle.query_core.proofs.SortingLemmas.{part_known}
use Rattle.query_core.proofs.sorting.key_of.Goals as goal

pub returns-in_default-clause-refused : goal.returns-in_default-clause-refused
returns-in_default-clause-refused c is key part =
    let text = c.args.part.now in
    let slice = take (length text - c.white_len.result) (drop c.white_len.result text) in
    let body : slice ≡ past_white text = rest_is text c.white_len.result ∙ c.white_len.ensures.rest in
    let n : c.untaken-len.result ≡ untaken White (past_white text) = c.untaken-len.ensures.value
    ∙ ap (untaken White) body in
    let after = rest_is slice c.untaken-len.result
    ∙ (ap (drop c.untaken-len.result) body ∙ ap (λ m. drop m (past_white text)) n) in
    let said = sym c.in_default.is ∙
    (c.direction_of.ensures ∙ (ap direction_in after ∙ (part_known text key part).1)) in cc

pub field_in-requires : goal.field_in-requires
field_in-requires c =
    let text = c.args.part.now in
    let slice = take (length text - c.white_len.result) (drop c.white_len.result text) in
    let body : slice ≡ past_white text = rest_is text c.white_len.result ∙ c.white_len.ensures.rest in
    let n : c.untaken-len.result ≡ untaken White (past_white text) = c.untaken-len.ensures.value
    ∙ ap (untaken White) body in
    rw (body, n) (utf8_before_stop White (past_white text) (utf8_past_white text c.requires))

pub returns-in-Err-clause-refused : goal.returns-in-Err-clause-refused
returns-in-Err-clause-refused c is key part =
    let text = c.args.part.now in
    let slice = take (length text - c.white_len.result) (drop c.white_len.result text) in
    let body : slice ≡ past_white text = rest_is text c.white_len.result ∙ c.white_len.ensures.rest in
    let n : c.untaken-len.result ≡ untaken White (past_white text) = c.untaken-len.ensures.value
    ∙ ap (untaken White) body in
    let same : c.in-Err.fault ≡ Refused = cc in
    c.in-Err.ensures.refused (ap Err same) (key.field, rw (body, n) (part_known text key part).0)

pub returns-in-Ok-clause-key : goal.returns-in-Ok-clause-key
returns-in-Ok-clause-key c =
    let text = c.args.part.now in
    let slice = take (length text - c.white_len.result) (drop c.white_len.result text) in
    let body : slice ≡ past_white text = rest_is text c.white_len.result ∙ c.white_len.ensures.rest in
    let n : c.untaken-len.result ≡ untaken White (past_white text) = c.untaken-len.ensures.value
    ∙ ap (untaken White) body in
    let after = rest_is slice c.untaken-len.result
    ∙ (ap (drop c.untaken-len.result) body ∙ ap (λ m. drop m (past_white text)) n) in
    let white = split_white text in
    let m = untaken White (past_white text) in (
      white.0,
      take m (past_white text),
      drop m (past_white text),
      white.1 ∙ ap (λ l. white.0 ++ l) (sym (take-append-drop m (past_white text))),
      white.2,
      rw (body, n) at (c.in-Ok.ensures.field),
      stop_after White (past_white text),
      sym (sym c.in-Some.is ∙ (c.direction_of.ensures ∙ ap direction_in after)),
    )
