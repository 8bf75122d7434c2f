-- The decimal text of a number from 1, and what it reads as.
use Rattle.std.proofs.Common.{◌≡◌, ◌≤◌, ◌<◌, ◌^◌, ℕ, List, get_or, decimal, Result, Ok, refl, sym, ap, ◌∙◌, arith}
use Rattle.std.specs.Str.Parse.{AllDigits, digits_value, ParsesUnsigned}
use Rattle.std.proofs.lemmas.Str.Parse.{IsNumeralModel, parse_plain, digit_at}
use Rattle.std.proofs.lemmas.Fmt.{decimal-digits_value, parse-decimal, first_decimal, decimal_is_IsNumeral}
use Rattle.std.proofs.lemmas.Result.{OkIff-at_ok}

own : IsNumeralModel (AllDigits 10) (digits_value 10)
own = record { to = λ ds h. h; from = λ ds h. h; same = λ ds h. refl }

-- it begins with a digit from 1
pub begins : (n : ℕ) (text : List ℕ) → decimal n ≡ text → 1 ≤ n → n < 2 ^ 32
    → (49 ≤ get_or text 0 0) × (get_or text 0 0 ≤ 57)
begins n text is one small =
    let first = first_decimal n one (omega (arith, small)) in let numeral =
    (decimal_is_IsNumeral n (omega (arith, small))).0 in
    let highest = (digit_at (decimal n) 0 numeral.1 numeral.0).1 in
    let at : get_or (decimal n) 0 0 ≡ get_or text 0 0 = ap (λ (w : List ℕ). get_or w 0 0) is in
    (omega (arith, first, at), omega (arith, highest, at))

-- a text that begins so is the decimal text of the number that it reads as
pub spelt : {E : Type 0} (n : ℕ) (text : List ℕ) (r : Result ℕ E) → ParsesUnsigned 32 10 text r → 49 ≤ get_or text 0 0
    → r ≡ Ok n → decimal n ≡ text
spelt n text r h digit is =
    let all = OkIff-at_ok r _ _ n (parse_plain own 32 text r h (λ e. omega (arith, digit, e))) is in
    ap decimal all.1 ∙ decimal-digits_value own text all.0.0 all.0.1 (λ zero. absurd (omega (arith, digit, zero)))
    (omega (arith, all.0.2))

-- a decimal text reads as its number
pub reads : {E : Type 0} (n : ℕ) (text : List ℕ) (r : Result ℕ E) → ParsesUnsigned 32 10 text r → decimal n ≡ text
    → n < 2 ^ 32 → r ≡ Ok n
reads n text r h is small = parse-decimal 32 n text r small (omega (arith, small)) (sym is) h
