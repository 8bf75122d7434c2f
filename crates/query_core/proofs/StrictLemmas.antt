-- Lists in strict order, and what holds of each two elements of a list.
use Rattle.std.proofs.Common.{◌≡◌, ◌≢◌, ℕ, zero, suc, ◌<◌, ◌≤◌, ◌⊎◌, inl, inr, List, [], ◌∷◌, length, get_or, refl, sym, ap, ◌∙◌, subst, arith, true≢false}
use Rattle.std.specs.Cmp.{IsTotalOrder}
use Rattle.std.specs.List.{Contains, AllByRecursion, AllPairs, swap}
use Rattle.std.specs.List.Sorted.{IsStrictlySortedBy}
use Rattle.std.specs.Ordering.{is_lt, ordering_reverse}
use Rattle.std.specs.declared.cmp.Ordering.{Ordering}
use Rattle.std.specs.declared.cmp.Ordering.TheVariants.{Less, Greater}
use Rattle.std.proofs.lemmas.Bool.{cases_eq, cases_lt}
use Rattle.std.proofs.lemmas.List.Edits.{Swapped, swapped_from_swap, length-swap}
use Rattle.std.proofs.lemmas.List.Elements.{All-contains, All-from_recursion, recursion_from_All}

module _ {X : Type 0} where
  pub head_in : (x : X) (xs : List X) → Contains (x ∷ xs) x
  head_in x xs = (0, omega arith, refl)

  pub tail_in : (x : X) (xs : List X) (z : X) → Contains xs z → Contains (x ∷ xs) z
  tail_in x xs z (k, inside, is) = (suc k, omega arith, is)

  pub in_cases : (x : X) (xs : List X) (z : X) → Contains (x ∷ xs) z → (x ≡ z) ⊎ Contains xs z
  in_cases x xs z (zero, inside, is) = inl is
  in_cases x xs z (suc k, inside, is) = inr (k, omega arith, is)

  pub none_in : (z : X) → Contains [] z → ⊥
  none_in z (k, inside, is) = absurd (omega arith)

-- a strict order has one list of each set
module _ {X : Type 0} {R : X → X → Ordering} (o : IsTotalOrder R) where
  less_twice : (x y : X) → R x y ≡ Less → R y x ≡ Less → ⊥
  less_twice x y one two =
      let turned : Less ≡ Greater = sym one ∙ (o.antisymm x y ∙ ap ordering_reverse two) in
      true≢false (ap is_lt turned)

  below_rest : (x : X) (xs : List X) (z : X) → AllByRecursion (λ y. R x y ≡ Less) xs → Contains xs z → R x z ≡ Less
  below_rest x xs z above there =
      All-contains (λ y. R x y ≡ Less) xs z (All-from_recursion (λ y. R x y ≡ Less) xs above) there

  first_same : (x y : X) (xs ys : List X) → AllByRecursion (λ z. R x z ≡ Less) xs
      → AllByRecursion (λ z. R y z ≡ Less) ys
      → (y ≡ x) ⊎ Contains ys x → (x ≡ y) ⊎ Contains xs y → x ≡ y
  first_same x y xs ys a b (inl is) there = sym is
  first_same x y xs ys a b (inr one) (inl is) = is
  first_same x y xs ys a b (inr one) (inr two) =
      absurd (less_twice x y (below_rest x xs y a two) (below_rest y ys x b one))

  rest_in : (x y : X) (xs ys : List X) → AllByRecursion (λ z. R x z ≡ Less) xs → x ≡ y
      → ((z : X) → Contains (x ∷ xs) z → Contains (y ∷ ys) z)
      → (z : X) → Contains xs z → Contains ys z
  rest_in x y xs ys a same there z inside = by_place (in_cases y ys z (there z (tail_in x xs z inside)))
    where
      by_place : (y ≡ z) ⊎ Contains ys z → Contains ys z
      by_place (inl is) =
          let below : R x x ≡ Less = subst (λ w. R x w ≡ Less) (sym (same ∙ is)) (below_rest x xs z a inside) in
          absurd (less_twice x x below below)
      by_place (inr later) = later

  pub one_order : (xs ys : List X) → IsStrictlySortedBy R xs → IsStrictlySortedBy R ys
      → ((z : X) → Contains xs z → Contains ys z) → ((z : X) → Contains ys z → Contains xs z) → xs ≡ ys
  unfolding IsStrictlySortedBy
  one_order [] [] s t there back = refl
  one_order [] (y ∷ ys) s t there back = absurd (none_in y (back y (head_in y ys)))
  one_order (x ∷ xs) [] s t there back = absurd (none_in x (there x (head_in x xs)))
  one_order (x ∷ xs) (y ∷ ys) s t there back =
      let same : x ≡ y = first_same x y xs ys s.0 t.0 (in_cases y ys x (there x (head_in x xs)))
      (in_cases x xs y (back y (head_in y ys))) in
      let rest : xs ≡ ys = one_order xs ys s.1 t.1 (rest_in x y xs ys s.0 same there)
      (rest_in y x ys xs t.0 (sym same) back) in
      ap (λ z. z ∷ xs) same ∙ ap (λ l. y ∷ l) rest

  pub strict_from : (xs : List X) → AllPairs (λ x y. R x y ≡ Less) xs → IsStrictlySortedBy R xs
  unfolding IsStrictlySortedBy
  strict_from [] pairs = tt
  strict_from (x ∷ xs) pairs = (
    recursion_from_All (λ y. R x y ≡ Less) xs (λ k d inside. pairs 0 (suc k) d (omega arith) (omega arith)),
    strict_from xs (λ i j d below inside. pairs (suc i) (suc j) d (omega arith) (omega arith)),
  )

-- the place from which an exchange of two places fills a place
abbrev From : ℕ → ℕ → ℕ → ℕ → Type 0
From a b i k = ((i ≡ a) × (k ≡ b)) ⊎ ((i ≢ a) × (i ≡ b) × (k ≡ a)) ⊎ ((i ≢ a) × (i ≢ b) × (k ≡ i))

from_one : (a b i j k : ℕ) → From a b i k → From a b j k → i ≡ j
from_one a b i j k (inl (x, y)) (inl (u, v)) = omega arith
from_one a b i j k (inl (x, y)) (inr (inl (n, u, v))) = omega arith
from_one a b i j k (inl (x, y)) (inr (inr (n, m, v))) = absurd (m (omega arith))
from_one a b i j k (inr (inl (n, x, y))) (inl (u, v)) = omega arith
from_one a b i j k (inr (inl (n, x, y))) (inr (inl (m, u, v))) = omega arith
from_one a b i j k (inr (inl (n, x, y))) (inr (inr (m, u, v))) = absurd (m (omega arith))
from_one a b i j k (inr (inr (n, m, y))) (inl (u, v)) = absurd (m (omega arith))
from_one a b i j k (inr (inr (n, m, y))) (inr (inl (l, u, v))) = absurd (n (omega arith))
from_one a b i j k (inr (inr (n, m, y))) (inr (inr (l, u, v))) = omega arith

from_within : (a b i k n : ℕ) → From a b i k → a < n → b < n → i < n → k < n
from_within a b i k n (inl (x, y)) one two inside = omega arith
from_within a b i k n (inr (inl (m, x, y))) one two inside = omega arith
from_within a b i k n (inr (inr (m, l, y))) one two inside = omega arith

filled : {X : Type 0} (f g : ℕ → X) (a b i : ℕ) → Swapped f g a b → (k : ℕ) × From a b i k × (g i ≡ f k)
filled f g a b i w = at_one (cases_eq i a)
  where
    at_other : (i ≡ a → ⊥) → (i ≡ b) ⊎ (i ≡ b → ⊥) → (k : ℕ) × From a b i k × (g i ≡ f k)
    at_other never (inl is) = (a, inr (inl (never, is, refl)), ap g is ∙ w.1)
    at_other never (inr not) = (i, inr (inr (never, not, refl)), w.2 i never not)

    at_one : (i ≡ a) ⊎ (i ≡ a → ⊥) → (k : ℕ) × From a b i k × (g i ≡ f k)
    at_one (inl is) = (b, inl (is, refl), ap g is ∙ w.0)
    at_one (inr never) = at_other never (cases_eq i b)

-- what holds of each two elements both ways, after two are exchanged
pub pairs_swap : {X : Type 0} (R : X → X → Type 0) → ((x y : X) → R x y → R y x) → (l : List X) (a b : ℕ)
    → a < length l → b < length l
    → AllPairs R l → AllPairs R (swap l a b)
pairs_swap {X} R turn l a b one two pairs i j d below inside =
    let within : j < length l = omega (arith, length-swap l a b) in
    let w = swapped_from_swap l (swap l a b) a b d one two refl in
    let f : ℕ → X = λ k. get_or l k d in
    let g : ℕ → X = λ k. get_or (swap l a b) k d in
    let first = filled f g a b i w in
    let second = filled f g a b j w in
    let start : first.0 < length l = from_within a b i first.0 (length l) first.1 one two (omega arith) in
    let end : second.0 < length l = from_within a b j second.0 (length l) second.1 one two within in
    let other : first.0 ≡ second.0 → ⊥ = λ same.
    let equal : i ≡ j = from_one a b i j first.0 first.1 (subst (From a b j) (sym same) second.1) in omega arith in
    subst (λ x. R x (g j)) (sym first.2) (subst (R (f first.0)) (sym second.2)
    (both_ways first.0 second.0 start end other (cases_lt first.0 second.0)))
  where
    both_ways : (m n : ℕ) → m < length l → n < length l → (m ≡ n → ⊥) → (m < n) ⊎ (n ≤ m)
        → R (get_or l m d) (get_or l n d)
    both_ways m n low high other (inl less) = pairs m n d less high
    both_ways m n low high other (inr more) =
        turn (get_or l n d) (get_or l m d) (pairs n m d (less_of m n other more) low)
      where
        less_of : (m n : ℕ) → (m ≡ n → ⊥) → n ≤ m → n < m
        less_of m n other more = strictly (cases_lt n m)
          where
            strictly : (n < m) ⊎ (m ≤ n) → n < m
            strictly (inl less) = less
            strictly (inr back) = absurd (other (omega arith))
