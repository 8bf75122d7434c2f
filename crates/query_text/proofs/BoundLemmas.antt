-- Bounds of ranges, digit by digit.
use Rattle.std.proofs.Common.{◌≡◌, ◌≢◌, ℕ, zero, suc, ◌+◌, ◌*◌, ◌-◌, ◌≤◌, inl, inr, ℤ, pos, Bool, true, false, List, [], ◌∷◌, ◌++◌, take, Option, Some, None, refl, sym, ap, ◌∙◌, subst, arith}
use Rattle.std.specs.Prelude.{not}
use Rattle.doip_json.specs.Sound.{IsWhole}
use Rattle.query_text.specs.Spelling.{is_digit, all_digits, number_after, AreDigits, IsNumeral, Within, IsBound}
use Rattle.query_text.specs.Faults.{IsFault}
use Rattle.query_text.specs.Stages.{first, Leads, Bound}
use Rattle.query_text.proofs.Languages.{first_taken}
use Rattle.query_text.specs.Reading.{no_digit, no_digit_of, signed, signed_number}
use Rattle.query_text.proofs.StageLemmas.{Live}
use Rattle.query_text.proofs.CutLemmas.{both}

-- what may follow a bound
pub record AfterBound (N : Bool → List ℕ → Type 0) : Type 0 where
  pub live : Live N
  pub lax : (more : List ℕ) × N false more
  pub blunt : (strict : Bool) (text : List ℕ) → N strict text → no_digit text ≡ true

pub not_both : (b : Bool) → b ≡ true → not b ≡ true → ⊥
not_both true is wrong = cc
not_both false is wrong = cc

-- digits that begin with other digits
pub record Extends (one two more rest : List ℕ) : Type 0 where
  pub digits : List ℕ
  pub are : two ≡ one ++ digits
  pub same : more ≡ digits ++ rest
  pub all : all_digits digits ≡ true

extends_by : (x y : ℕ) (one two more rest : List ℕ) → x ≡ y → Extends one two more rest
    → Extends (x ∷ one) (y ∷ two) more rest
extends_by x y one two more rest byte e =
    record { digits = e.digits; are = ap (λ z. z ∷ two) (sym byte) ∙ ap (λ l. x ∷ l) e.are; same = e.same; all = e.all }

extends : (one two more rest : List ℕ) → all_digits one ≡ true → all_digits two ≡ true → no_digit rest ≡ true
    → one ++ more ≡ two ++ rest
    → Extends one two more rest
extends [] two more rest digits also blunt same = record { digits = two; are = refl; same = same; all = also }
extends (x ∷ one) [] more [] digits also blunt same = cc
extends (x ∷ one) [] more (y ∷ rest) digits also blunt same =
    let byte : x ≡ y = cc in
    absurd (not_both (is_digit y) (subst (λ z. is_digit z ≡ true) byte (both (is_digit x) (all_digits one) digits).0)
    blunt)
extends (x ∷ one) (y ∷ two) more rest digits also blunt same =
    let byte : x ≡ y = cc in
    let on : one ++ more ≡ two ++ rest = cc in
    extends_by x y one two more rest byte
    (extends one two more rest (both (is_digit x) (all_digits one) digits).1
    (both (is_digit y) (all_digits two) also).1 blunt on)

no_digits : (digits rest more : List ℕ) → all_digits digits ≡ true → no_digit more ≡ true → more ≡ digits ++ rest
    → more ≡ rest
no_digits [] rest more all blunt same = same
no_digits (x ∷ digits) rest [] all blunt same = cc
no_digits (x ∷ digits) rest (y ∷ more) all blunt same =
    let byte : x ≡ y = cc in
    absurd (not_both (is_digit y) (subst (λ z. is_digit z ≡ true) byte (both (is_digit x) (all_digits digits) all).0)
    blunt)

pub record Numeral (bytes : List ℕ) (number : ℤ) : Type 0 where
  pub minus : Bool
  pub digits : List ℕ
  pub are : AreDigits digits
  pub bytes_are : bytes ≡ signed minus digits
  pub number_is : number ≡ signed_number minus (number_after 0 digits)

pub numeral_of : (bytes : List ℕ) (number : ℤ) → IsNumeral bytes number → Numeral bytes number
numeral_of bytes number (digits, are, inl is) =
    record { minus = false; digits = digits; are = are; bytes_are = is.0; number_is = is.1 }
numeral_of bytes number (digits, are, inr is) =
    record { minus = true; digits = digits; are = are; bytes_are = is.0; number_is = is.1 }

pub no_minus : (digits more rest : List ℕ) → AreDigits digits → digits ++ more ≡ 45 ∷ rest → ⊥
no_minus [] more rest are same = are.0 refl
no_minus (x ∷ digits) more rest are same =
    let byte : x ≡ 45 = cc in
    let bad : is_digit 45 ≡ true = subst (λ z. is_digit z ≡ true) byte
    (both (is_digit x) (all_digits digits) are.1).0 in cc

no_star : (digits more rest : List ℕ) → AreDigits digits → digits ++ more ≡ 42 ∷ rest → ⊥
no_star [] more rest are same = are.0 refl
no_star (x ∷ digits) more rest are same =
    let byte : x ≡ 42 = cc in
    let bad : is_digit 42 ≡ true = subst (λ z. is_digit z ≡ true) byte
    (both (is_digit x) (all_digits digits) are.1).0 in cc

signed_extends : (m o : Bool) (one two more rest : List ℕ) → AreDigits one → AreDigits two → no_digit rest ≡ true
    → signed m one ++ more ≡ signed o two ++ rest
    → (m ≡ o) × Extends one two more rest
signed_extends true true one two more rest are also blunt same =
    let on : one ++ more ≡ two ++ rest = cc in (refl, extends one two more rest are.1 also.1 blunt on)
signed_extends false false one two more rest are also blunt same =
    (refl, extends one two more rest are.1 also.1 blunt same)
signed_extends true false one two more rest are also blunt same =
    absurd (no_minus two rest (one ++ more) also (sym same))
signed_extends false true one two more rest are also blunt same = absurd (no_minus one more (two ++ rest) are same)

pub numeral_extends : (one two more rest : List ℕ) (a b : ℤ) (p : Numeral one a) (q : Numeral two b)
    → no_digit rest ≡ true → one ++ more ≡ two ++ rest
    → (p.minus ≡ q.minus) × Extends p.digits q.digits more rest
numeral_extends one two more rest a b p q blunt same =
    signed_extends p.minus q.minus p.digits q.digits more rest p.are q.are blunt
    (ap (λ t. t ++ more) (sym p.bytes_are) ∙ (same ∙ ap (λ t. t ++ rest) q.bytes_are))

heads : (x y : ℕ) (a b : List ℕ) → x ∷ a ≡ y ∷ b → x ≡ y
heads x y a b same = cc

signed_no_star : (m : Bool) (digits more rest : List ℕ) → AreDigits digits → signed m digits ++ more ≡ 42 ∷ rest → ⊥
signed_no_star true digits more rest are same = let byte = heads 45 42 (digits ++ more) rest same in
    absurd (omega arith)
signed_no_star false digits more rest are same = no_star digits more rest are same

pub numeral_no_star : (bytes more rest : List ℕ) (number : ℤ) → Numeral bytes number → bytes ++ more ≡ 42 ∷ rest → ⊥
numeral_no_star bytes more rest number p same =
    signed_no_star p.minus p.digits more rest p.are (ap (λ t. t ++ more) (sym p.bytes_are) ∙ same)

within_both : (strict : Bool) (number : ℤ) → IsWhole number → Within strict number
within_both true number whole = whole
within_both false number whole = tt

pub bound_leads : (N : Bool → List ℕ → Type 0) → AfterBound N → (bytes rest : List ℕ) (number : ℤ)
    → IsNumeral bytes number → IsWhole number
    → no_digit rest ≡ true → Leads (Bound N) N bytes rest
bound_leads N n bytes rest number is whole blunt = record {
  forth = λ strict more said. (bytes, more, Some number, refl, (is, within_both strict number whole), said);
  back = λ strict more same (other, after, bound, are, also, said). goes strict more same other after bound are also
      said;
}
  where
    goes : (strict : Bool) (more : List ℕ) → first more ≡ first rest → (other after : List ℕ) (bound : Option ℤ)
        → bytes ++ more ≡ other ++ after
        → IsBound strict other bound → N strict after → N strict more
    goes strict more same other after None are also said =
        absurd (numeral_no_star bytes more after number (numeral_of bytes number is) (are ∙ ap (λ o. o ++ after) also))
    goes strict more same other after (Some z) are also said =
        let e = numeral_extends bytes other more after number z (numeral_of bytes number is)
        (numeral_of other z also.0) (n.blunt strict after said) are in
        let whole_rest : more ≡ after =
        no_digits e.1.digits after more e.1.all (ap no_digit_of same ∙ blunt) e.1.same in
        subst (N strict) (sym whole_rest) said

pub star_leads : (N : Bool → List ℕ → Type 0) (rest : List ℕ) → Leads (Bound N) N (42 ∷ []) rest
star_leads N rest = record {
  forth = λ strict more said. (42 ∷ [], more, None, refl, refl, said);
  back = λ strict more same (other, after, bound, are, also, said). goes strict more other after bound are also said;
}
  where
    goes : (strict : Bool) (more other after : List ℕ) (bound : Option ℤ) → 42 ∷ more ≡ other ++ after
        → IsBound strict other bound → N strict after → N strict more
    goes strict more other after None are also said =
        let whole : 42 ∷ more ≡ 42 ∷ after = are ∙ ap (λ o. o ++ after) also in
        let same : more ≡ after = cc in subst (N strict) (sym same) said
    goes strict more other after (Some z) are also said =
        absurd (numeral_no_star other after more z (numeral_of other z also.0) (sym are))

pub number_on : (n : ℕ) (a b : List ℕ) → number_after n (a ++ b) ≡ number_after (number_after n a) b
number_on n [] b = refl
number_on n (x ∷ a) b = number_on (10 * n + (x - 48)) a b

pub number_grows : (n : ℕ) (digits : List ℕ) → n ≤ number_after n digits
number_grows n [] = omega arith
number_grows n (x ∷ digits) = let more = number_grows (10 * n + (x - 48)) digits in omega arith

whole_below : (m : Bool) (a b : ℕ) → a ≤ b → IsWhole (signed_number m b) → IsWhole (signed_number m a)
whole_below false a b less whole = omega arith
whole_below true zero b less whole = omega arith
whole_below true (suc a) zero less whole = absurd (omega arith)
whole_below true (suc a) (suc b) less whole = omega arith

past_more : (m o : Bool) (one two more rest : List ℕ) → m ≡ o → Extends one two more rest
    → IsWhole (signed_number o (number_after 0 two))
    → IsWhole (signed_number m (number_after 0 one))
past_more m o one two more rest same e whole =
    let grown : number_after 0 one ≤ number_after 0 two =
    subst (λ n. number_after 0 one ≤ n) (sym (ap (number_after 0) e.are ∙ number_on 0 one e.digits))
    (number_grows (number_after 0 one) e.digits) in
    whole_below m (number_after 0 one) (number_after 0 two) grown
    (subst (λ s. IsWhole (signed_number s (number_after 0 two))) (sym same) whole)

-- a bound out of range
pub past_bound : (N : Bool → List ℕ → Type 0) → AfterBound N → (bytes rest : List ℕ) (number : ℤ)
    → IsNumeral bytes number → (IsWhole number → ⊥)
    → IsFault (Bound N) (bytes ++ rest) 0
past_bound N n bytes rest number is past = inr (record {
  numeral = bytes;
  number = number;
  rest = rest;
  here = refl;
  is = is;
  past = past;
  begins = (
    48 ∷ n.live.0,
    (
      45 ∷ 48 ∷ [],
      n.live.0,
      Some (pos 0),
      refl,
      ((48 ∷ [], ((λ e. cc), refl), inr (refl, refl)), omega arith),
      n.live.1,
    ),
  );
  reads = (n.lax.0, (bytes, n.lax.0, Some number, refl, (is, tt), n.lax.1));
  never = λ more (other, after, bound, are, also, said). none more other after bound are also said;
})
  where
    none : (more other after : List ℕ) (bound : Option ℤ) → bytes ++ more ≡ other ++ after → IsBound true other bound
        → N true after → ⊥
    none more other after None are also said =
        numeral_no_star bytes more after number (numeral_of bytes number is) (are ∙ ap (λ o. o ++ after) also)
    none more other after (Some z) are also said =
        let p = numeral_of bytes number is in
        let q = numeral_of other z also.0 in
        let e = numeral_extends bytes other more after number z p q (n.blunt true after said) are in
        past (subst IsWhole (sym p.number_is)
        (past_more p.minus q.minus p.digits q.digits more after e.0 e.1 (subst IsWhole q.number_is also.1)))

-- no bound begins so
abbrev Boundless : Option ℕ → Type 0
Boundless head = (no_digit_of head ≡ true) × (head ≢ Some 45) × (head ≢ Some 42)

first_of_signed : (m : Bool) (digits rest : List ℕ) → AreDigits digits → Boundless (first (signed m digits ++ rest)) → ⊥
first_of_signed true digits rest are none = none.1 refl
first_of_signed false [] rest are none = are.0 refl
first_of_signed false (x ∷ digits) rest are none =
    not_both (is_digit x) (both (is_digit x) (all_digits digits) are.1).0 none.0

nothing_bound : (N : Bool → List ℕ → Type 0) (strict : Bool) (text bytes rest : List ℕ) (bound : Option ℤ)
    → text ≡ bytes ++ rest → IsBound strict bytes bound
    → Boundless (first text) → ⊥
nothing_bound N strict text bytes rest None are is none = none.2 (ap first (are ∙ ap (λ b. b ++ rest) is))
nothing_bound N strict text bytes rest (Some z) are is none =
    let p = numeral_of bytes z is.0 in
    first_of_signed p.minus p.digits rest p.are
    (subst Boundless (ap first (are ∙ ap (λ b. b ++ rest) p.bytes_are)) none)

pub no_bound : (N : Bool → List ℕ → Type 0) → AfterBound N → (rest : List ℕ) → no_digit rest ≡ true
    → first rest ≢ Some 45 → first rest ≢ Some 42
    → IsFault (Bound N) rest 0
no_bound N n rest blunt minus star = inl (record {
  within = omega arith;
  begins = (42 ∷ n.live.0, (42 ∷ [], n.live.0, None, refl, refl, n.live.1));
  ends = λ inside more (bytes, after, bound, are, is, said).
      nothing_bound N false (take (0 + 1) rest ++ more) bytes after bound are is
      (subst Boundless (sym (first_taken rest more 0 inside)) (blunt, minus, star));
  short = λ whole (bytes, after, bound, are, is, said). nothing_bound N false rest bytes after bound are is
      (blunt, minus, star);
})

lone_signed : (m : Bool) (digits rest text : List ℕ) → AreDigits digits → 45 ∷ text ≡ signed m digits ++ rest
    → no_digit text ≡ true → ⊥
lone_signed true [] rest text are same blunt = are.0 refl
lone_signed true (x ∷ digits) rest [] are same blunt = cc
lone_signed true (x ∷ digits) rest (y ∷ text) are same blunt =
    let byte : x ≡ y = cc in
    not_both (is_digit y) (subst (λ z. is_digit z ≡ true) byte (both (is_digit x) (all_digits digits) are.1).0) blunt
lone_signed false digits rest text are same blunt = no_minus digits rest text are (sym same)

lone : (strict : Bool) (text bytes rest : List ℕ) (bound : Option ℤ) → 45 ∷ text ≡ bytes ++ rest
    → IsBound strict bytes bound → no_digit text ≡ true → ⊥
lone strict text bytes rest None are is blunt = let byte = heads 45 42 text rest (are ∙ ap (λ b. b ++ rest) is) in
    absurd (omega arith)
lone strict text bytes rest (Some z) are is blunt =
    let p = numeral_of bytes z is.0 in
    lone_signed p.minus p.digits rest text p.are (are ∙ ap (λ b. b ++ rest) p.bytes_are) blunt

-- a `-` without a digit
pub lone_minus : (N : Bool → List ℕ → Type 0) → AfterBound N → (rest : List ℕ) → no_digit rest ≡ true
    → IsFault (Bound N) (45 ∷ rest) 1
lone_minus N n rest blunt = inl (record {
  within = omega arith;
  begins = (
    48 ∷ n.live.0,
    (
      45 ∷ 48 ∷ [],
      n.live.0,
      Some (pos 0),
      refl,
      ((48 ∷ [], ((λ e. cc), refl), inr (refl, refl)), omega arith),
      n.live.1,
    ),
  );
  ends = λ inside more (bytes, after, bound, are, is, said).
      lone false (take (0 + 1) rest ++ more) bytes after bound are is
      (ap no_digit_of (first_taken rest more 0 (omega arith)) ∙ blunt);
  short = λ whole (bytes, after, bound, are, is, said). lone false rest bytes after bound are is blunt;
})
