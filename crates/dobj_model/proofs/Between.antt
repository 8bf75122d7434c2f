-- The part of a list from one place to before another.
use Rattle.std.proofs.Common.{◌≡◌, ℕ, zero, suc, ◌+◌, ◌<◌, ◌≤◌, List, [], ◌∷◌, ◌++◌, length, drop, take, get_or, Some}
use Rattle.std.proofs.Common.{refl, sym, ap, ◌∙◌, arith}
use Rattle.std.proofs.lemmas.List.{length-take-le}
use Rattle.std.proofs.lemmas.Option.{slice_get_within, slice_get-get_or}
use Rattle.std.specs.List.{slice_get}
use Rattle.doip_json.proofs.Lists.{take_next}

drop_before : {X : Type 0} (n : ℕ) (xs ys : List X) → n ≤ length xs → drop n (xs ++ ys) ≡ drop n xs ++ ys
drop_before zero xs ys within = refl
drop_before (suc n) [] ys within = absurd (omega arith)
drop_before (suc n) (x ∷ xs) ys within = drop_before n xs ys (omega arith)

-- one more
pub between_next : {X : Type 0} (xs : List X) (from i : ℕ) (x : X) → slice_get xs i ≡ Some x → from ≤ i
    → drop from (take (i + 1) xs) ≡ drop from (take i xs) ++ x ∷ []
between_next xs from i x e above =
    ap (drop from) (take_next xs i x e)
    ∙ drop_before from (take i xs) (x ∷ []) (omega
    (arith, length-take-le i xs (omega (arith, slice_get_within xs i x e))))

-- the rest begins with the item at its place
pub drop_here : {X : Type 0} (xs : List X) (i : ℕ) (x : X) → slice_get xs i ≡ Some x → drop i xs ≡ x ∷ drop (i + 1) xs
drop_here [] i x e = absurd (cc)
drop_here (y ∷ xs) zero x e = let same : y ≡ x = cc in ap (λ z. z ∷ xs) same
drop_here (y ∷ xs) (suc i) x e = drop_here xs i x e ∙ ap (λ n. x ∷ drop n (y ∷ xs)) (the_next i)
  where
    the_next : (n : ℕ) → suc (n + 1) ≡ suc n + 1
    the_next n = omega arith

pub drop_at : {X : Type 0} (xs : List X) (i : ℕ) (x : X) → x ≡ get_or xs i x → i < length xs
    → drop i xs ≡ x ∷ drop (i + 1) xs
drop_at xs i x is within = drop_here xs i x (slice_get-get_or xs i x within ∙ ap Some (sym is))

pub drop_end : {X : Type 0} (xs : List X) (i : ℕ) → length xs ≤ i → drop i xs ≡ []
drop_end [] zero past = refl
drop_end [] (suc i) past = refl
drop_end (x ∷ xs) zero past = absurd (omega arith)
drop_end (x ∷ xs) (suc i) past = drop_end xs i (omega arith)
