-- Texts of few digits.
use Rattle.std.proofs.Common.{◌≡◌, ◌≢◌, ℕ, ◌<◌, ◌≤◌, inl, inr, ℤ, Bool, true, false, List, [], ◌∷◌, length, drop, Option, Some, None, IfSome, IsNone, refl, sym, ap, ◌∙◌, subst, arith, append-nil, length-drop, eqb-true}
use Rattle.std.proofs.lemmas.List.{take_all}
use Rattle.std.specs.Option.{SomeIff}
use Rattle.doip_json.specs.Sound.{IsWhole}
use Rattle.query_text.specs.Spelling.{AreDigits, is_digit, all_digits, number_after}
use Rattle.query_text.specs.Reading.{signed_number, sign_len, IsDigitRun, no_digit}
use Rattle.query_core.specs.PageNumber.{IsShortNumeral, is_minus}
use Rattle.query_text.proofs.CutLemmas.{both}
use Rattle.query_text.proofs.NumeralReads.{digits_after}
use Rattle.query_text.proofs.BoundLemmas.{no_minus, not_both}

-- what is known of the digits of a short text
abbrev pub Known : Bool → List ℕ → Type 0
Known minus digits = AreDigits digits × (length digits ≤ 18) × IsWhole (signed_number minus (number_after 0 digits))

digit_minus : (bytes digits : List ℕ) → bytes ≡ digits → AreDigits digits → is_minus bytes ≡ true → ⊥
digit_minus [] digits same are minus = cc
digit_minus (x ∷ bytes) digits same are minus =
    let byte : x ≡ 45 = eqb-true x 45 minus in
    no_minus digits [] bytes are (append-nil digits ∙ (sym same ∙ ap (λ y. y ∷ bytes) byte))

pub short_known : (minus : Bool) (bytes : List ℕ) (number : ℤ) → is_minus bytes ≡ minus → IsShortNumeral bytes number
    → Known minus (drop (sign_len minus) bytes)
short_known true bytes number is (digits, are, short, whole, inl (same, n)) =
    absurd (digit_minus bytes digits same are is)
short_known false bytes number is (digits, are, short, whole, inl (same, n)) =
    subst (Known false) (sym same) (are, short, subst IsWhole n whole)
short_known true bytes number is (digits, are, short, whole, inr (same, n)) =
    let rest : drop 1 bytes ≡ digits = ap (drop 1) same in
    subst (Known true) (sym rest) (are, short, subst IsWhole n whole)
short_known false bytes number is (digits, are, short, whole, inr (same, n)) =
    let bad : true ≡ false = ap is_minus (sym same) ∙ is in cc

-- digits are counted to their end
pub all_counted : (digits : List ℕ) (n : ℕ) → IsDigitRun digits n → AreDigits digits → (n < length digits → ⊥)
    × (n ≡ 0 → ⊥)
all_counted digits n run are = (
  (λ short. ends (drop n digits) (digits_after digits n are.1) run.blunt (omega (arith, length-drop n digits))),
  (λ none. ends digits are.1 (subst (λ k. no_digit (drop k digits) ≡ true) none run.blunt) (some digits are.0)),
)
  where
    ends : (rest : List ℕ) → all_digits rest ≡ true → no_digit rest ≡ true → 0 < length rest → ⊥
    ends [] all blunt long = omega arith
    ends (x ∷ rest) all blunt long = not_both (is_digit x) (both (is_digit x) (all_digits rest) all).0 blunt

    some : (rest : List ℕ) → rest ≢ [] → 0 < length rest
    some [] long = absurd (long refl)
    some (x ∷ rest) long = omega arith

with_sign : (bytes : List ℕ) → is_minus bytes ≡ true → bytes ≡ 45 ∷ drop 1 bytes
with_sign [] is = cc
with_sign (x ∷ bytes) is = ap (λ y. y ∷ bytes) (eqb-true x 45 is)

-- the number of a short text
pub short_reads : (minus : Bool) (bytes : List ℕ) (n : ℕ) (number : ℤ) → is_minus bytes ≡ minus
    → IsDigitRun (drop (sign_len minus) bytes) n → 0 < n → n ≤ 18
    → length (drop (sign_len minus) bytes) ≤ n → IsWhole number
    → number ≡ signed_number minus (number_after 0 (drop (sign_len minus) bytes)) → IsShortNumeral bytes number
short_reads true bytes n number is run some short over whole same =
    let digits = drop 1 bytes in (
      digits,
      (
        (λ none. absurd (omega (arith, ap (length {A = ℕ}) none, run.fits))),
        ap all_digits
            (sym (take_all n digits over)) ∙ run.all,
      ),
      omega arith,
      whole,
      inr (with_sign bytes is, same),
    )
short_reads false bytes n number is run some short over whole same = (
  bytes,
  (
    (λ none. absurd (omega (arith, ap (length {A = ℕ}) none, run.fits))),
    ap all_digits (sym (take_all n bytes over))
        ∙ run.all,
  ),
  omega arith,
  whole,
  inl (refl, same),
)

-- a number that is given exactly when it is in range
pub some_short : (r : Option ℤ) (v : ℤ) (bytes : List ℕ) → SomeIff r (IsWhole v) v
    → (IsWhole v → IsShortNumeral bytes v) → IfSome r (IsShortNumeral bytes)
some_short None v bytes said known = tt
some_short (Some z) v bytes said known = subst (IsShortNumeral bytes) (sym said.1) (known said.0)

pub none_short : (r : Option ℤ) (v : ℤ) → SomeIff r (IsWhole v) v → IsNone r → IsWhole v → ⊥
none_short None v said none whole = said whole
none_short (Some z) v said none whole = cc
