-- Weights of lists, prefixes of lists, and numbers in lists.
use Rattle.std.proofs.Common.{◌≡◌, ◌≢◌, ◌⊎◌, ℕ, zero, suc, ◌+◌, ◌<◌, ◌≤◌, cond, List, [], ◌∷◌, ◌++◌, length, set, refl, ap, sym, ◌∙◌, arith, append_assoc, eq-eqb, ne_eqb, slice_get, Some, inl, inr, ⊎_elim}
use Rattle.std.proofs.lemmas.Bool.Decides.{nat_tests}
use mathlib.Core.Logic.{dite}
use mathlib.Core.Option.{some, some-injective, some-ne-none}
use mathlib.Core.List.{IsPrefix}
use native.Mathlib.Decide.{dec_le}
use lib.ListN.{get_elem?}
use Rattle.history_lock.specs.History.{same}
use Rattle.history_lock.specs.Rule.{below, total}

module _ {A : Type 0} where
  pub total_set : (f : A → ℕ) (xs : List A) (i : ℕ) (a b : A) → get_elem? xs i ≡ some a → total f (set xs i b) + f a ≡ total f xs + f b
  total_set f [] i a b e = absurd (some-ne-none a (sym e))
  total_set f (x ∷ xs) zero a b e = let w : f x ≡ f a = ap f (some-injective x a e) in omega arith
  total_set f (x ∷ xs) (suc i) a b e = omega (arith, total_set f xs i a b e)

  pub total_snoc : (f : A → ℕ) (xs : List A) (b : A) → total f (xs ++ b ∷ []) ≡ total f xs + f b
  total_snoc f [] b = omega arith
  total_snoc f (x ∷ xs) b = omega (arith, total_snoc f xs b)

  pub total_one : (f : A → ℕ) (xs : List A) (i : ℕ) (a : A) → get_elem? xs i ≡ some a → f a ≤ total f xs
  total_one f [] i a e = absurd (some-ne-none a (sym e))
  total_one f (x ∷ xs) zero a e = let w : f x ≡ f a = ap f (some-injective x a e) in omega arith
  total_one f (x ∷ xs) (suc i) a e = omega (arith, total_one f xs i a e)

  pub total_two : (f : A → ℕ) (xs : List A) (i j : ℕ) (a b : A) → i ≢ j → get_elem? xs i ≡ some a → get_elem? xs j ≡ some b → f a + f b ≤ total f xs
  total_two f [] i j a b n e g = absurd (some-ne-none a (sym e))
  total_two f (x ∷ xs) zero zero a b n e g = absurd (n refl)
  total_two f (x ∷ xs) zero (suc j) a b n e g = let w : f x ≡ f a = ap f (some-injective x a e) in omega (arith, total_one f xs j b g)
  total_two f (x ∷ xs) (suc i) zero a b n e g = let w : f x ≡ f b = ap f (some-injective x b g) in omega (arith, total_one f xs i a e)
  total_two f (x ∷ xs) (suc i) (suc j) a b n e g = omega (arith, total_two f xs i j a b (λ h. n (ap suc h)) e g)

  pub total_le : (f h : A → ℕ) (xs : List A) → ((i : ℕ) (a : A) → get_elem? xs i ≡ some a → f a ≤ h a) → total f xs ≤ total h xs
  total_le f h [] each = omega arith
  total_le f h (x ∷ xs) each = omega (arith, each 0 x refl, total_le f h xs (λ i a e. each (suc i) a e))

  total_none : (f : A → ℕ) (xs : List A) → ((i : ℕ) (a : A) → get_elem? xs i ≡ some a → f a ≡ 0) → total f xs ≡ 0
  total_none f [] each = refl
  total_none f (x ∷ xs) each = omega (arith, each 0 x refl, total_none f xs (λ i a e. each (suc i) a e))

  pub total_alone : (f : A → ℕ) (xs : List A) (i : ℕ) (a : A) → get_elem? xs i ≡ some a → ((j : ℕ) (b : A) → j ≢ i → get_elem? xs j ≡ some b → f b ≡ 0) → total f xs ≡ f a
  total_alone f [] i a e none = absurd (some-ne-none a (sym e))
  total_alone f (x ∷ xs) zero a e none = let w : f x ≡ f a = ap f (some-injective x a e) in omega (arith, total_none f xs (λ j b g. none (suc j) b (λ h. omega arith) g))
  total_alone f (x ∷ xs) (suc i) a e none = omega (arith, none 0 x (λ h. omega arith) refl, total_alone f xs i a e (λ j b n g. none (suc j) b (λ h. n (omega arith)) g))

  pub prefix_self : (xs : List A) → IsPrefix xs xs
  prefix_self [] = ([], refl)
  prefix_self (x ∷ xs) = let r = prefix_self xs in (r.0, ap (λ ys. x ∷ ys) r.1)

  pub prefix_trans : (xs ys zs : List A) → IsPrefix xs ys → IsPrefix ys zs → IsPrefix xs zs
  prefix_trans xs ys zs p q = (p.0 ++ q.0, sym (append_assoc xs p.0 q.0) ∙ (ap (λ w. w ++ q.0) p.1 ∙ q.1))

  -- of two prefixes of one list the shorter is a prefix of the longer
  pub prefix_shorter : (xs ys zs : List A) → IsPrefix xs zs → IsPrefix ys zs → length xs ≤ length ys → IsPrefix xs ys
  prefix_shorter [] ys zs p q le = (ys, refl)
  prefix_shorter (x ∷ xs) [] zs p q le = absurd (omega arith)
  prefix_shorter (x ∷ xs) (y ∷ ys) [] p q le = absurd (cc (p.1))
  prefix_shorter (x ∷ xs) (y ∷ ys) (z ∷ zs) p q le =
      let heads : x ≡ y = cc (p.1, q.1) in let tails = prefix_shorter xs ys zs (p.0, cc (p.1)) (q.0, cc (q.1)) (omega arith) in (tails.0, cc (heads, tails.1))

  -- a prefix as long as the whole is the whole
  pub prefix_whole : (xs ys : List A) → IsPrefix xs ys → length ys ≤ length xs → xs ≡ ys
  prefix_whole [] [] p le = refl
  prefix_whole [] (y ∷ ys) p le = absurd (omega arith)
  prefix_whole (x ∷ xs) [] p le = absurd (cc (p.1))
  prefix_whole (x ∷ xs) (y ∷ ys) p le = let heads : x ≡ y = cc (p.1) in let tails = prefix_whole xs ys (p.0, cc (p.1)) (omega arith) in cc (heads, tails)

module _ {A : Type 0} where
  pub get_snoc : (xs : List A) (y x : A) (k : ℕ) → slice_get (xs ++ y ∷ []) k ≡ Some x → (slice_get xs k ≡ Some x) ⊎ ((k ≡ length xs) × (y ≡ x))
  get_snoc [] y x zero e = inr (refl, cc (e))
  get_snoc [] y x (suc k) e = absurd (cc (e))
  get_snoc (z ∷ xs) y x zero e = inl e
  get_snoc (z ∷ xs) y x (suc k) e = ⊎_elim (λ (h : slice_get xs k ≡ Some x). inl h) (λ (h : (k ≡ length xs) × (y ≡ x)). inr (ap suc h.0, h.1)) (get_snoc xs y x k e)

  pub get_longer : (xs ys : List A) (x : A) (k : ℕ) → slice_get xs k ≡ Some x → slice_get (xs ++ ys) k ≡ Some x
  get_longer [] ys x k e = absurd (cc (e))
  get_longer (z ∷ xs) ys x zero e = e
  get_longer (z ∷ xs) ys x (suc k) e = get_longer xs ys x k e

  pub get_last : (xs : List A) (x : A) → slice_get (xs ++ x ∷ []) (length xs) ≡ Some x
  get_last [] x = refl
  get_last (z ∷ xs) x = get_last xs x

-- one more number is below n + 1
pub below_next : (n m : ℕ) → below n (m + 1) ≡ below n m + same n m
below_next n m = grind (arith, nat_tests)

pub same_here : (n m : ℕ) → n ≡ m → same n m ≡ 1
same_here n m e = ap (λ b. cond b 1 0) (eq-eqb n m e)

pub same_else : (n m : ℕ) → n ≢ m → same n m ≡ 0
same_else n m e = ap (λ b. cond b 1 0) (ne_eqb n m e)

pub below_one : (n m : ℕ) → n < m → below n m ≡ 1
below_one n m l = grind (arith, nat_tests)

pub below_not : (n m : ℕ) → m ≤ n → below n m ≡ 0
below_not n m l = grind (arith, nat_tests)

pub below_at_most : (n m : ℕ) → below n m ≤ 1
below_at_most n m = dite (dec_le m n) (λ l. let e = below_not n m l in omega arith) (λ l. let e = below_one n m (omega arith) in omega arith)

pub same_turned : (n m : ℕ) → same n m ≡ same m n
same_turned n m = grind (arith, nat_tests)
