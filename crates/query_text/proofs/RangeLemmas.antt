-- Ranges, a part at a time.
use Rattle.std.proofs.Common.{◌≡◌, ℕ, ◌≤◌, inl, inr, ℤ, Bool, true, false, List, [], ◌∷◌, ◌++◌, Some, None, refl, sym, ap, ◌∙◌, arith, ne_eqb}
use Rattle.std.proofs.lemmas.Bool.{leb-true}
use Rattle.std.specs.Prelude.{not, leb}
use Rattle.dobj_field.specs.Field.{is_white}
use Rattle.query_text.specs.Parts.{all_white}
use Rattle.query_text.specs.Spelling.{is_digit, all_digits, IsGap, IsNumeral, AreDigits}
use Rattle.query_text.specs.Stages.{Word, White, Gap, Bound}
use Rattle.query_text.specs.Reading.{is_sharp, no_digit}
use Rattle.query_text.proofs.StageLemmas.{Live, Sharp, white_live, word_live, gap_live}
use Rattle.query_text.proofs.BoundLemmas.{AfterBound}
use Rattle.query_text.proofs.CutLemmas.{both}

-- a digit isn't white
digit_dark : (x : ℕ) → is_digit x ≡ true → is_white x ≡ false
digit_dark x digit =
    let least : 48 ≤ x = leb-true 48 x (both (leb 48 x) (leb x 57) digit).0 in
    rw (
      ne_eqb x 32 (λ e. omega arith),
      ne_eqb x 9 (λ e. omega arith),
      ne_eqb x 13 (λ e. omega arith),
      ne_eqb x 10
          (λ e. omega arith),
    ) refl

white_blunt : (x : ℕ) → is_white x ≡ true → not (is_digit x) ≡ true
white_blunt x white = by_digit (is_digit x) refl
  where
    by_digit : (b : Bool) → is_digit x ≡ b → not b ≡ true
    by_digit true digit = let bad : true ≡ false = sym white ∙ digit_dark x digit in cc
    by_digit false digit = refl

pub word_sharp : (x : ℕ) (word : List ℕ) (N : Bool → List ℕ → Type 0) → is_white x ≡ false → Sharp (Word (x ∷ word) N)
word_sharp x word N dark strict text (rest, are, said) = ap is_sharp are ∙ ap not dark

digits_sharp : (digits rest : List ℕ) → AreDigits digits → is_sharp (digits ++ rest) ≡ true
digits_sharp [] rest are = absurd (are.0 refl)
digits_sharp (x ∷ digits) rest are = ap not (digit_dark x (both (is_digit x) (all_digits digits) are.1).0)

pub numeral_sharp : (bytes rest : List ℕ) (z : ℤ) → IsNumeral bytes z → is_sharp (bytes ++ rest) ≡ true
numeral_sharp bytes rest z (digits, are, inl is) = ap (λ b. is_sharp (b ++ rest)) is.0 ∙ digits_sharp digits rest are
numeral_sharp bytes rest z (digits, are, inr is) = ap (λ b. is_sharp (b ++ rest)) is.0

pub bound_sharp : (N : Bool → List ℕ → Type 0) → Sharp (Bound N)
bound_sharp N strict text (bytes, rest, None, are, is, said) = ap is_sharp (are ∙ ap (λ b. b ++ rest) is)
bound_sharp N strict text (bytes, rest, Some z, are, is, said) = ap is_sharp are ∙ numeral_sharp bytes rest z is.0

pub gap_blunt : (gap rest : List ℕ) → IsGap gap → no_digit (gap ++ rest) ≡ true
gap_blunt [] rest is = absurd (is.0 refl)
gap_blunt (x ∷ gap) rest is = white_blunt x (both (is_white x) (all_white gap) is.1).0

-- a gap may follow a bound
pub gap_after : (N : Bool → List ℕ → Type 0) → Live N → ((more : List ℕ) × N false more) → AfterBound (Gap N)
gap_after N live lax = record {
  live = gap_live N live;
  lax = (32 ∷ lax.0, (32 ∷ [], lax.0, refl, ((λ e. cc), refl), lax.1));
  blunt = λ strict text (gap, rest, are, is, said). ap no_digit are ∙ gap_blunt gap rest is;
}

pub white_word_blunt : (white rest : List ℕ) → all_white white ≡ true → no_digit (white ++ 93 ∷ rest) ≡ true
white_word_blunt [] rest is = refl
white_word_blunt (x ∷ white) rest is = white_blunt x (both (is_white x) (all_white white) is).0

-- white bytes and a `]` may follow a bound
pub close_after : (K : Bool → List ℕ → Type 0) → Live K → ((more : List ℕ) × K false more)
    → AfterBound (White (Word (93 ∷ []) K))
close_after K live lax = record {
  live = white_live (Word (93 ∷ []) K) (word_live (93 ∷ []) K live);
  lax = (93 ∷ lax.0, ([], 93 ∷ lax.0, refl, refl, (lax.0, refl, lax.1)));
  blunt = λ strict text (white, rest, are, is, (after, also, said)).
      ap no_digit (are ∙ ap (λ r. white ++ r) also) ∙ white_word_blunt white after is;
}
