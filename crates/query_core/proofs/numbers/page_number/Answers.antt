use Rattle.std.proofs.Common.{◌∙◌, sym, subst}
use Rattle.query_core.specs.PageNumber.{IsShortNumeral}
use Rattle.query_core.proofs.numbers.page_number.Goals as goal

pub returns-in-Text-clause-none : goal.returns-in-Text-clause-none
returns-in-Text-clause-none c none number said =
    c.short_number.ensures.none none number
    (subst (λ s. IsShortNumeral s number) (sym (c.as_bytes.ensures.value ∙ c.get.ensures.text))
    (rw c.in-Text.is at said))
