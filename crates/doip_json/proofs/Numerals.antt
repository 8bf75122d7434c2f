-- A whole number's decimal text is a JSON number, is text, and reads back.
use Rattle.std.proofs.Common.{◌≡◌, ℕ, ℤ, pos, negsuc, suc, ◌^◌, ◌<◌, false, cond, ◌==◌, List, [], ◌∷◌, drop, get_or, Some, option_and_then, decimal, IsUtf8, refl, sym, ap, ◌∙◌, arith}
use Rattle.std.proofs.lemmas.Bool.{ne_eqb}
use Rattle.std.proofs.lemmas.Fmt.{first_decimal, IsAscii-decimal}
use Rattle.std.proofs.lemmas.Str.{IsUtf8-from_ascii, IsUtf8-append}
use Rattle.std.specs.Fmt.{signed_decimal}
use Rattle.json.specs.Word.{head, after_whole, after_fraction, after_exponent, after_number}
use Rattle.json.specs.Print.{IsNumber}
use Rattle.json.proofs.Printed.Decimals.{IsNumber-decimal}
use Rattle.json.proofs.Printed.Utf8.{IsUtf8-are_ascii}
use Rattle.serde_json.specs.Read.{number_of}
use Rattle.serde_json.specs.Find.{of_integer, as_integer}
use Rattle.serde_json.specs.Written.{number_text}
use Rattle.serde_json.proofs.Numbers.{number_of-decimal, number_of-negative}
use Rattle.doip_json.specs.Sound.{IsWhole}

no_minus : (ds : List ℕ) → 48 < get_or ds 0 0 → (head ds == 45) ≡ false
no_minus [] first = absurd (omega arith)
no_minus (d ∷ ds) first = ne_eqb d 45 (λ e. omega arith)

IsNumber-minus : (n : ℕ) → suc n < 2 ^ 64 → IsNumber (45 ∷ decimal (suc n))
unfolding after_number
IsNumber-minus n h =
    let ds = decimal (suc n) in
    let plain : cond (head ds == 45) (drop 1 ds) ds ≡ ds = ap (λ b. cond b (drop 1 ds) ds) (no_minus ds (first_decimal (suc n) (omega arith) h)) in
    ap (λ s. option_and_then after_exponent (option_and_then after_fraction (after_whole s))) (sym plain) ∙ IsNumber-decimal (suc n) h

pub IsNumber-whole : (z : ℤ) → IsWhole z → IsNumber (signed_decimal z)
IsNumber-whole (pos n) h = IsNumber-decimal n h
IsNumber-whole (negsuc n) h = IsNumber-minus n (omega arith)

pub IsUtf8-whole : (z : ℤ) → IsWhole z → IsUtf8 (signed_decimal z)
IsUtf8-whole (pos n) h = IsUtf8-from_ascii (decimal n) (IsAscii-decimal n h)
IsUtf8-whole (negsuc n) h = IsUtf8-append (45 ∷ []) (decimal (suc n)) (IsUtf8-are_ascii (45 ∷ []) refl) (IsUtf8-from_ascii (decimal (suc n)) (IsAscii-decimal (suc n) (omega arith)))

pub number_text-whole : (z : ℤ) → number_text (of_integer z) ≡ signed_decimal z
number_text-whole (pos n) = refl
number_text-whole (negsuc n) = refl

pub number_of-whole : (z : ℤ) → IsWhole z → number_of (signed_decimal z) ≡ Some (of_integer z)
number_of-whole (pos n) h = number_of-decimal n h
number_of-whole (negsuc n) h = number_of-negative n h

pub as_integer-whole : (z : ℤ) → as_integer (of_integer z) ≡ Some z
as_integer-whole (pos n) = refl
as_integer-whole (negsuc n) = refl
