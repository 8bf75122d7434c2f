-- The longer of two prefixes of one history.
use Rattle.std.proofs.Common.{◌≡◌, ◌⊎◌, ◌<◌, ◌≤◌, Bool, true, false, ltb, if◌then◌else◌, List, [], ◌∷◌, length, refl, ap, sym, subst, ◌∙◌, arith, inl, inr}
use Rattle.std.proofs.lemmas.Bool.Decides.{nat_tests}
use mathlib.Core.Logic.{dite}
use mathlib.Core.List.{IsPrefix}
use native.Mathlib.Decide.{dec_le}
use Rattle.history_lock.specs.Told.{longer, AreSeen}
use Rattle.history_lock.proofs.Lists.{prefix_whole}

module _ {A : Type 0} where
  pub longer_cases : (xs ys : List A) → ((longer xs ys ≡ xs) × (length ys ≤ length xs)) ⊎ ((longer xs ys ≡ ys) × (length xs < length ys))
  longer_cases xs ys = dite (dec_le (length ys) (length xs))
      (λ l. let e : ltb (length xs) (length ys) ≡ false = grind (arith, nat_tests) in inl (ap (λ (b : Bool). if b then ys else xs) e, l))
      (λ l. let less : length xs < length ys = omega arith in let e : ltb (length xs) (length ys) ≡ true = grind (arith, nat_tests) in inr (ap (λ (b : Bool). if b then ys else xs) e, less))

  -- both begin the longer
  pub both_begin : (xs ys : List A) → AreSeen (xs ∷ ys ∷ []) (longer xs ys) → IsPrefix xs (longer xs ys) × IsPrefix ys (longer xs ys)
  both_begin xs ys (p, (q, u)) = (
    p (by_cases xs ys (λ e l. let n = ap length e in omega arith) (λ e l. let n = ap length e in omega arith)),
    q (by_cases xs ys (λ e l. let n = ap length e in omega arith) (λ e l. let n = ap length e in omega arith)),
  )
    where
      by_cases : {P : Type 0} (xs ys : List A) → (longer xs ys ≡ xs → length ys ≤ length xs → P) → (longer xs ys ≡ ys → length xs < length ys → P) → P
      by_cases xs ys f g = Rattle.std.proofs.Common.⊎_elim (λ (h : (longer xs ys ≡ xs) × (length ys ≤ length xs)). f h.0 h.1) (λ (h : (longer xs ys ≡ ys) × (length xs < length ys)). g h.0 h.1) (longer_cases xs ys)

  pub longer_one : (xs ys : List A) → (longer xs ys ≡ xs) ⊎ (longer xs ys ≡ ys)
  longer_one xs ys = Rattle.std.proofs.Common.⊎_elim (λ (h : (longer xs ys ≡ xs) × (length ys ≤ length xs)). inl h.0) (λ (h : (longer xs ys ≡ ys) × (length xs < length ys)). inr h.0) (longer_cases xs ys)

  -- the longer of a prefix and the whole is the whole
  pub longer_whole : (xs ys : List A) → IsPrefix xs ys → longer xs ys ≡ ys
  longer_whole xs ys p = Rattle.std.proofs.Common.⊎_elim (λ (h : (longer xs ys ≡ xs) × (length ys ≤ length xs)). h.0 ∙ prefix_whole xs ys p h.1) (λ (h : (longer xs ys ≡ ys) × (length xs < length ys)). h.0) (longer_cases xs ys)
