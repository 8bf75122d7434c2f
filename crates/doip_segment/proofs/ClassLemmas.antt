-- What the class of a byte says of it.
use Rattle.std.proofs.Common.{◌≡◌, ◌≢◌, ℕ, ◌-◌, ◌≤◌, ◌<◌, Bool, true, false, cond, ◌||◌, ◌&&◌, ◌⊎◌, refl, subst, arith, eqb, leb}
use Rattle.std.proofs.lemmas.Bool.Decides.{nat_tests}
use Rattle.doip_segment.specs.declared.class.Class.{Class}
use Rattle.doip_segment.specs.declared.class.Class.TheVariants.{LineFeed, Blank, Hash, At, Digit, Other}
use Rattle.doip_segment.specs.Machine.{class_of}

abbrev pub IsBlankByte : ℕ → Type 0
IsBlankByte b = (b ≡ 32) ⊎ (b ≡ 9) ⊎ (b ≡ 13)

abbrev pub Classified : ℕ → Class → Type 0
Classified b LineFeed = b ≡ 10
Classified b Blank = IsBlankByte b
Classified b Hash = b ≡ 35
Classified b At = b ≡ 64
Classified b (Digit d) = (48 ≤ b) × (b ≤ 57) × (d ≡ b - 48)
Classified b Other = (b ≢ 10) × (b ≢ 32) × (b ≢ 9) × (b ≢ 13) × (b ≢ 35) × (b ≢ 64) × ((b < 48) ⊎ (57 < b))

blank_tests : (b : ℕ) → (eqb b 32 || eqb b 9 || eqb b 13) ≡ true → IsBlankByte b
blank_tests b e = grind (arith, nat_tests)

blank_fails : (b : ℕ) → (eqb b 32 || eqb b 9 || eqb b 13) ≡ false → (b ≢ 32) × (b ≢ 9) × (b ≢ 13)
blank_fails b e = grind (arith, nat_tests)

digit_tests : (b : ℕ) → (leb 48 b && leb b 57) ≡ true → (48 ≤ b) × (b ≤ 57)
digit_tests b e = grind (arith, nat_tests)

digit_fails : (b : ℕ) → (leb 48 b && leb b 57) ≡ false → (b < 48) ⊎ (57 < b)
digit_fails b e = grind (arith, nat_tests)

pub eq_tests : (a b : ℕ) → eqb a b ≡ true → a ≡ b
eq_tests a b e = grind (arith, nat_tests)

pub eq_fails : (a b : ℕ) → eqb a b ≡ false → a ≢ b
eq_fails a b e = grind (arith, nat_tests)

by_tests : (b : ℕ) (t1 t2 t3 t4 t5 : Bool) → eqb b 10 ≡ t1 → (eqb b 32 || eqb b 9 || eqb b 13) ≡ t2 → eqb b 35 ≡ t3 → eqb b 64 ≡ t4 → (leb 48 b && leb b 57) ≡ t5 → Classified b (cond t1 LineFeed (cond t2 Blank (cond t3 Hash (cond t4 At (cond t5 (Digit (b - 48)) Other)))))
by_tests b true t2 t3 t4 t5 e1 e2 e3 e4 e5 = eq_tests b 10 e1
by_tests b false true t3 t4 t5 e1 e2 e3 e4 e5 = blank_tests b e2
by_tests b false false true t4 t5 e1 e2 e3 e4 e5 = eq_tests b 35 e3
by_tests b false false false true t5 e1 e2 e3 e4 e5 = eq_tests b 64 e4
by_tests b false false false false true e1 e2 e3 e4 e5 = let d = digit_tests b e5 in (d.0, d.1, refl)
by_tests b false false false false false e1 e2 e3 e4 e5 =
    let blank = blank_fails b e2 in (eq_fails b 10 e1, blank.0, blank.1, blank.2, eq_fails b 35 e3, eq_fails b 64 e4, digit_fails b e5)

pub classified : (b : ℕ) → Classified b (class_of b)
classified b = by_tests b (eqb b 10) (eqb b 32 || eqb b 9 || eqb b 13) (eqb b 35) (eqb b 64) (leb 48 b && leb b 57) refl refl refl refl refl

-- the same, for a class that is known
pub classified_as : (b : ℕ) (c : Class) → class_of b ≡ c → Classified b c
classified_as b c e = subst (Classified b) e (classified b)

pub digit_small : (b d : ℕ) → class_of b ≡ Digit d → d ≤ 9
digit_small b d e = let k = classified_as b (Digit d) e in omega (arith, k.0, k.1, k.2)

pub class_not_feed : (b : ℕ) → (b ≡ 10 → ⊥) → class_of b ≡ LineFeed → ⊥
class_not_feed b other is = other (classified_as b LineFeed is)
