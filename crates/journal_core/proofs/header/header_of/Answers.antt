use Rattle.std.proofs.Common.{◌≡◌, ℕ, List, take, drop, replicate, sym, ◌∙◌, ap, arith, rules}
use Rattle.journal_core.specs.Layout.{magic}
use Rattle.journal_core.proofs.Headers.{Cut, has_text, has_area, has_zeros, is_header}
use Rattle.journal_core.proofs.header.header_of.Goals as goal

pub returns-then-ne-clause-none : goal.returns-then-ne-clause-none
returns-then-ne-clause-none c = λ area side has.
    let prefix = c.args.prefix.now in
    let text = c.in_ok-text.text.now in
    let field = c.in_ok-field.field.now in
    let zeros = c.in_ok-side_byte.zeros.now in
    let side_byte = c.in_ok-side_byte.side_byte.now in
    let cut : Cut prefix text field zeros side_byte = record {
      size = c.told-prefix;
      text_is = c.in_ok-text.ensures.cases.0;
      field_is = c.in_ok-field.ensures.cases.0 ∙ ap (λ (l : List ℕ). take 8 l) c.in_ok-text.ensures.cases.1;
      rest_is = ap (λ (l : List ℕ). drop 8 l) (sym c.in_ok-text.ensures.cases.1) ∙ sym c.in_ok-field.ensures.cases.1 ∙ c.in_ok-side_byte.ensures.cases.0;
    } in
    let is = has_text prefix text field zeros side_byte cut area side has in search rules

pub returns-then-ne-2-clause-none : goal.returns-then-ne-2-clause-none
returns-then-ne-2-clause-none c = λ area side has.
    let prefix = c.args.prefix.now in
    let text = c.in_ok-text.text.now in
    let field = c.in_ok-field.field.now in
    let zeros = c.in_ok-side_byte.zeros.now in
    let side_byte = c.in_ok-side_byte.side_byte.now in
    let cut : Cut prefix text field zeros side_byte = record {
      size = c.told-prefix;
      text_is = c.in_ok-text.ensures.cases.0;
      field_is = c.in_ok-field.ensures.cases.0 ∙ ap (λ (l : List ℕ). take 8 l) c.in_ok-text.ensures.cases.1;
      rest_is = ap (λ (l : List ℕ). drop 8 l) (sym c.in_ok-text.ensures.cases.1) ∙ sym c.in_ok-field.ensures.cases.1 ∙ c.in_ok-side_byte.ensures.cases.0;
    } in
    let is = has_zeros prefix text field zeros side_byte cut area side has in search rules

pub returns-then-area-lt-LEAST_AREA-clause-none : goal.returns-then-area-lt-LEAST_AREA-clause-none
returns-then-area-lt-LEAST_AREA-clause-none c = λ area side has.
    let prefix = c.args.prefix.now in
    let text = c.in_ok-text.text.now in
    let field = c.in_ok-field.field.now in
    let zeros = c.in_ok-side_byte.zeros.now in
    let side_byte = c.in_ok-side_byte.side_byte.now in
    let cut : Cut prefix text field zeros side_byte = record {
      size = c.told-prefix;
      text_is = c.in_ok-text.ensures.cases.0;
      field_is = c.in_ok-field.ensures.cases.0 ∙ ap (λ (l : List ℕ). take 8 l) c.in_ok-text.ensures.cases.1;
      rest_is = ap (λ (l : List ℕ). drop 8 l) (sym c.in_ok-text.ensures.cases.1) ∙ sym c.in_ok-field.ensures.cases.1 ∙ c.in_ok-side_byte.ensures.cases.0;
    } in
    let is = has_area prefix text field zeros side_byte cut area side has in omega (arith, is, c.from_be_bytes-area.ensures, has.least)

pub returns-then-area-gt-MOST_AREA-clause-none : goal.returns-then-area-gt-MOST_AREA-clause-none
returns-then-area-gt-MOST_AREA-clause-none c = λ area side has.
    let prefix = c.args.prefix.now in
    let text = c.in_ok-text.text.now in
    let field = c.in_ok-field.field.now in
    let zeros = c.in_ok-side_byte.zeros.now in
    let side_byte = c.in_ok-side_byte.side_byte.now in
    let cut : Cut prefix text field zeros side_byte = record {
      size = c.told-prefix;
      text_is = c.in_ok-text.ensures.cases.0;
      field_is = c.in_ok-field.ensures.cases.0 ∙ ap (λ (l : List ℕ). take 8 l) c.in_ok-text.ensures.cases.1;
      rest_is = ap (λ (l : List ℕ). drop 8 l) (sym c.in_ok-text.ensures.cases.1) ∙ sym c.in_ok-field.ensures.cases.1 ∙ c.in_ok-side_byte.ensures.cases.0;
    } in
    let is = has_area prefix text field zeros side_byte cut area side has in omega (arith, is, c.from_be_bytes-area.ensures, has.most)

pub returns-clause-some : goal.returns-clause-some
returns-clause-some c =
    let prefix = c.args.prefix.now in
    let text = c.in_ok-text.text.now in
    let field = c.in_ok-field.field.now in
    let zeros = c.in_ok-side_byte.zeros.now in
    let side_byte = c.in_ok-side_byte.side_byte.now in
    let cut : Cut prefix text field zeros side_byte = record {
      size = c.told-prefix;
      text_is = c.in_ok-text.ensures.cases.0;
      field_is = c.in_ok-field.ensures.cases.0 ∙ ap (λ (l : List ℕ). take 8 l) c.in_ok-text.ensures.cases.1;
      rest_is = ap (λ (l : List ℕ). drop 8 l) (sym c.in_ok-text.ensures.cases.1) ∙ sym c.in_ok-field.ensures.cases.1 ∙ c.in_ok-side_byte.ensures.cases.0;
    } in
    let text_is : text ≡ magic = search rules in
    let zeros_is : zeros ≡ replicate 15 0 = search rules in
    is_header prefix text field zeros side_byte cut c.from_be_bytes-area.result c.fits-prefix c.from_be_bytes-area.ensures text_is zeros_is c.if-area-lt-LEAST_AREA.false c.if-area-gt-MOST_AREA.false
