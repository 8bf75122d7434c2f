-- Digits and white bytes that were counted.
use Rattle.std.proofs.Common.{◌≡◌, ℕ, suc, ◌+◌, ◌*◌, ◌-◌, ◌<◌, ◌≤◌, min, ◌⊎◌, inl, inr, ℤ, Bool, true, false, List, [], ◌∷◌, ◌++◌, length, get_or, take, drop, Some, refl, sym, ap, ◌∙◌, subst, arith, length-drop}
use Rattle.std.specs.Prelude.{◌&&◌}
use Rattle.std.proofs.lemmas.Bool.{cases_lt}
use Rattle.std.proofs.lemmas.List.{take-append-drop, take_more, drop_more, drop-drop, length-take}
use Rattle.doip_json.specs.Sound.{IsWhole}
use Rattle.query_text.specs.Parts.{past_white}
use Rattle.query_text.specs.Spelling.{is_digit, all_digits, number_after, AreDigits, IsNumeral}
use Rattle.query_text.specs.Stages.{first}
use Rattle.query_text.specs.Reading.{signed, signed_number, sign_len, Headed, IsDigitRun, IsBoundRead, BreaksBound, IsWhiteRead, no_digit}
use Rattle.query_text.proofs.CutLemmas.{both}
use Rattle.query_text.proofs.StageLemmas.{white_counted}
use Rattle.query_text.proofs.BoundLemmas.{number_on}

digits_on : (a b : List ℕ) → all_digits a ≡ true → all_digits b ≡ true → all_digits (a ++ b) ≡ true
digits_on [] b one two = two
digits_on (x ∷ a) b one two =
    let parts = both (is_digit x) (all_digits a) one in ap (λ d. d && all_digits (a ++ b)) parts.0
    ∙ digits_on a b parts.1 two

-- one more digit
pub digits_more : (rest : List ℕ) (at : ℕ) → all_digits (take at rest) ≡ true → at < length rest
    → is_digit (get_or rest at 0) ≡ true
    → all_digits (take (at + 1) rest) ≡ true
digits_more rest at all inside digit =
    ap all_digits (take_more rest at 0 inside)
    ∙ digits_on (take at rest) (get_or rest at 0 ∷ []) all (ap (λ d. d && true) digit)

pub digits_after : (digits : List ℕ) (at : ℕ) → all_digits digits ≡ true → all_digits (drop at digits) ≡ true
digits_after digits at all = second (take at digits) (drop at digits) (ap all_digits (take-append-drop at digits) ∙ all)
  where
    second : (a b : List ℕ) → all_digits (a ++ b) ≡ true → all_digits b ≡ true
    second [] b all = all
    second (x ∷ a) b all = second a b (both (is_digit x) (all_digits (a ++ b)) all).1

pub digit_at : (digits : List ℕ) (at : ℕ) → all_digits digits ≡ true → at < length digits
    → is_digit (get_or digits at 0) ≡ true
digit_at digits at all inside =
    (both (is_digit (get_or digits at 0)) (all_digits (drop (at + 1) digits))
    (ap all_digits (sym (drop_more digits at 0 inside)) ∙ digits_after digits at all)).0

capped : (n m e c : ℕ) → m ≡ min n c → (n < c) ⊎ (c ≤ n) → min (10 * m + e) c ≡ min (10 * n + e) c
capped n m e c is (inl below) = let same : m ≡ n = omega arith in ap (λ k. min (10 * k + e) c) same
capped n m e c is (inr over) = let same : m ≡ c = omega arith in omega arith

-- the number after one more digit
pub number_more : (digits : List ℕ) (at m c : ℕ) → m ≡ min (number_after 0 (take at digits)) c → at < length digits
    → min (10 * m + (get_or digits at 0 - 48)) c ≡ min (number_after 0 (take (at + 1) digits)) c
number_more digits at m c is inside =
    let n = number_after 0 (take at digits) in
    capped n m (get_or digits at 0 - 48) c is (cases_lt n c)
    ∙ ap (λ k. min k c) (sym (ap (number_after 0) (take_more digits at 0 inside)
    ∙ number_on 0 (take at digits) (get_or digits at 0 ∷ [])))

-- the white bytes at a place
pub white_end_is : (bytes : List ℕ) (at n : ℕ) → n ≤ length (drop at bytes) → at ≤ length bytes
    → drop n (drop at bytes) ≡ past_white (drop at bytes)
    → IsWhiteRead bytes at (at + n)
white_end_is bytes at n fits within is =
    let parts = white_counted (drop at bytes) n is in
    record { len = n; end_is = refl; fits = omega (arith, length-drop at bytes); white = parts.0; sharp = parts.1 }

signed_taken : (minus : Bool) (rest : List ℕ) (n : ℕ) → (minus ≡ true → first rest ≡ Some 45)
    → take (sign_len minus + n) rest ≡ signed minus (take n (drop (sign_len minus) rest))
signed_taken false rest n head = ap (λ k. take k rest) (omega arith)
signed_taken true rest n head = by_head rest (head refl)
  where
    by_head : (text : List ℕ) → first text ≡ Some 45 → take (1 + n) text ≡ 45 ∷ take n (drop 1 text)
    by_head [] said = cc
    by_head (x ∷ text) said =
        let byte : x ≡ 45 = cc in
        let one : 1 + n ≡ suc n = omega arith in rw one (ap (λ y. y ∷ take n text) byte)

head_of : (bytes : List ℕ) (at : ℕ) (minus : Bool) → Headed bytes at minus → minus ≡ true
    → first (drop at bytes) ≡ Some 45
head_of bytes at true head same = head
head_of bytes at false head same = cc

are_digits : (rest : List ℕ) (n : ℕ) → IsDigitRun rest n → 0 < n → AreDigits (take n rest)
are_digits rest n run some = (
  (λ none. absurd
      (omega (arith, ap (length {A = ℕ}) none, length-take n rest, run.fits))),
  run.all,
)

numeral_is : (minus : Bool) (digits : List ℕ) → AreDigits digits
    → IsNumeral (signed minus digits) (signed_number minus (number_after 0 digits))
numeral_is true digits are = (digits, are, inr (refl, refl))
numeral_is false digits are = (digits, are, inl (refl, refl))

-- a number in range
pub numeral_reads : (bytes : List ℕ) (at : ℕ) (minus : Bool) (start n : ℕ) (number : ℤ) → at ≤ length bytes
    → Headed bytes at minus → start ≡ at + sign_len minus
    → IsDigitRun (drop start bytes) n → 0 < n → IsWhole number
    → number ≡ signed_number minus (number_after 0 (take n (drop start bytes)))
    → start ≤ length bytes → IsBoundRead bytes at (Some number) (start + n)
numeral_reads bytes at minus start n number within head is run some whole same low =
    let rest = drop at bytes in
    let on : drop (sign_len minus) rest ≡ drop start bytes = drop-drop (sign_len minus) at bytes
    ∙ ap (λ k. drop k bytes) (sym is) in
    let taken : take (sign_len minus + n) rest ≡ signed minus (take n (drop start bytes)) =
    signed_taken minus rest n (head_of bytes at minus head) ∙ ap (λ d. signed minus (take n d)) on in
    let after : drop (sign_len minus + n) rest ≡ drop n (drop start bytes) = sym (drop-drop n (sign_len minus) rest)
    ∙ ap (drop n) on in
    record {
      len = sign_len minus + n;
      end_is = omega arith;
      fits = omega (arith, run.fits, length-drop start bytes);
      is = (
        subst (λ b. IsNumeral b number) (sym taken)
            (subst (IsNumeral (signed minus (take n (drop start bytes)))) (sym same)
            (numeral_is minus (take n (drop start bytes)) (are_digits (drop start bytes) n run some))),
        whole,
      );
      apart = ap no_digit after ∙ run.blunt;
    }

-- a number out of range
pub numeral_past : (bytes : List ℕ) (at : ℕ) (minus : Bool) (start n : ℕ) → at ≤ length bytes → Headed bytes at minus
    → start ≡ at + sign_len minus
    → IsDigitRun (drop start bytes) n → 0 < n
    → (IsWhole (signed_number minus (number_after 0 (take n (drop start bytes)))) → ⊥)
    → BreaksBound bytes at at
numeral_past bytes at minus start n within head is run some past =
    let rest = drop at bytes in
    let on : drop (sign_len minus) rest ≡ drop start bytes = drop-drop (sign_len minus) at bytes
    ∙ ap (λ k. drop k bytes) (sym is) in
    let taken : take (sign_len minus + n) rest ≡ signed minus (take n (drop start bytes)) =
    signed_taken minus rest n (head_of bytes at minus head) ∙ ap (λ d. signed minus (take n d)) on in (
      0,
      omega arith,
      within,
      inr (inr (
        refl,
        (
          take (sign_len minus + n) rest,
          drop (sign_len minus + n) rest,
          signed_number minus (number_after 0 (take n (drop start bytes))),
          sym (take-append-drop (sign_len minus + n) rest),
          subst (λ b. IsNumeral b (signed_number minus (number_after 0 (take n (drop start bytes))))) (sym taken)
              (numeral_is minus (take n (drop start bytes)) (are_digits (drop start bytes) n run some)),
          past,
        ),
      )),
    )

no_run : (rest : List ℕ) (n : ℕ) → IsDigitRun rest n → n ≡ 0 → no_digit rest ≡ true
no_run rest n run none = subst (λ k. no_digit (drop k rest) ≡ true) none run.blunt

-- no number
pub numeral_lacks : (bytes : List ℕ) (at : ℕ) (minus : Bool) (start n : ℕ) → at ≤ length bytes → Headed bytes at minus
    → start ≡ at + sign_len minus
    → IsDigitRun (drop start bytes) n → n ≡ 0 → start ≤ length bytes → BreaksBound bytes at start
numeral_lacks bytes at false start n within head is run none low =
    let same : start ≡ at = omega arith in (
      0,
      omega arith,
      low,
      inl (
        refl,
        ap (λ k. no_digit (drop k bytes)) (sym same)
            ∙ no_run (drop start bytes) n run none,
        head.0,
        head.1,
      ),
    )
numeral_lacks bytes at true start n within head is run none low =
    let parts = split (drop at bytes) head in
    let on : parts.0 ≡ drop start bytes = sym (ap (drop 1) parts.1)
    ∙ (drop-drop 1 at bytes ∙ ap (λ k. drop k bytes) (sym is)) in
    (1, is, low, inr (inl (refl, (parts.0, parts.1, ap no_digit on ∙ no_run (drop start bytes) n run none))))
  where
    split : (text : List ℕ) → first text ≡ Some 45 → (more : List ℕ) × (text ≡ 45 ∷ more)
    split [] said = cc
    split (x ∷ text) said = let byte : x ≡ 45 = cc in (text, ap (λ y. y ∷ text) byte)

-- the place after a sign is in the text
pub start_fits : (bytes : List ℕ) (at : ℕ) (minus : Bool) (start : ℕ) → at ≤ length bytes → Headed bytes at minus
    → start ≡ at + sign_len minus → start ≤ length bytes
start_fits bytes at false start within head is = omega arith
start_fits bytes at true start within head is = by_rest (drop at bytes) refl head
  where
    by_rest : (rest : List ℕ) → drop at bytes ≡ rest → first rest ≡ Some 45 → start ≤ length bytes
    by_rest [] same said = cc
    by_rest (x ∷ rest) same said = omega (arith, is, ap (length {A = ℕ}) same, length-drop at bytes)

pub slice_is : (text : List ℕ) (start n : ℕ) → take (start + n - start) (drop start text) ≡ take n (drop start text)
slice_is text start n = let same : start + n - start ≡ n = omega arith in ap (λ k. take k (drop start text)) same
