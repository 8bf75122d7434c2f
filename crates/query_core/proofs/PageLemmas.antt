-- A page of what was sorted.
use Rattle.std.proofs.Common.{◌≡◌, ℕ, zero, suc, ◌+◌, ◌-◌, ◌*◌, ◌<◌, ◌≤◌, min, Bool, List, [], ◌∷◌, length, get_or, take, drop, map, Option, None, Some, ◌⊎◌, refl, ap, ◌∙◌, sym, arith, length-drop, inl, inr}
use Rattle.std.proofs.lemmas.Bool.{cases_lt}
use Rattle.std.proofs.lemmas.List.{take_all, drop_all}
use Rattle.std.specs.declared.cmp.Ordering.{Ordering}
use Rattle.std.specs.Ordering.{is_lt}
use Rattle.std.specs.Cmp.{IsStrictWeakOrder}
use Rattle.std.specs.Fn.{Called, ComparesAs}
use Rattle.std.specs.List.Sorted.{IsSortedBy}
use Rattle.std.proofs.lemmas.Fn.{always_returns_same}
use denote.Param.Members.{Mut}
use denote.Ref.{Bor}
use Rattle.dobj_model.specs.declared.object.ObjectValue.{ObjectValue}
use Rattle.query_core.specs.Page.{cut, IsPart}

pub length_mapped : {X Y : Type 0} (f : X → Y) (xs : List X) → length (map f xs) ≡ length xs
length_mapped f [] = refl
length_mapped f (x ∷ xs) = ap suc (length_mapped f xs)

-- an element of a mapped list
map_at : {X Y : Type 0} (f : X → Y) (xs : List X) (k : ℕ) (d : Y) (e : X) → k < length xs
    → get_or (map f xs) k d ≡ f (get_or xs k e)
map_at f [] k d e h = absurd (omega arith)
map_at f (x ∷ xs) zero d e h = refl
map_at f (x ∷ xs) (suc k) d e h = map_at f xs k d e (omega arith)

-- what is sorted by what its elements mean
pub sorted_map : {X Y : Type 0} (f : X → Y) (lt : Y → Y → Bool) (xs : List X) → IsSortedBy (λ x y. lt (f x) (f y)) xs
    → IsSortedBy lt (map f xs)
sorted_map f lt [] sorted k d low h = absurd (omega arith)
sorted_map f lt (x ∷ xs) sorted k d low h =
    let within : k + 1 < length (x ∷ xs) = omega (arith, length_mapped f (x ∷ xs)) in
    let first = map_at f (x ∷ xs) (k + 1) d x within in
    let second = map_at f (x ∷ xs) k d x (omega arith) in
    rw (first, second) (sorted k x low within)

-- both take all, or the same
take_same : (a b : ℕ) (xs : List ObjectValue) → ((a ≡ b) ⊎ ((length xs ≤ a) × (length xs ≤ b))) → take a xs ≡ take b xs
take_same a b xs (inl same) = ap (λ n. take n xs) same
take_same a b xs (inr (one, other)) = take_all a xs one ∙ sym (take_all b xs other)

-- from start to end, where the page begins within the hits
part_within : (hits : List ObjectValue) (skipped size start end : ℕ) → skipped < length hits
    → start ≡ min skipped (length hits)
    → end ≡ min (skipped + size) (length hits) → (size < length hits - skipped) ⊎ (length hits - skipped ≤ size)
    → take (end - start) (drop start hits) ≡ take size (drop skipped hits)
part_within hits skipped size start end within first last (inl fits) =
    let begin : start ≡ skipped = omega arith in
    ap (λ n. take (end - start) (drop n hits)) begin
    ∙ take_same (end - start) size (drop skipped hits) (inl (omega arith))
part_within hits skipped size start end within first last (inr over) =
    let begin : start ≡ skipped = omega arith in
    ap (λ n. take (end - start) (drop n hits)) begin
    ∙ take_same (end - start) size (drop skipped hits)
    (inr (omega (arith, length-drop skipped hits), omega (arith, length-drop skipped hits)))

part_at : (hits : List ObjectValue) (skipped size start end : ℕ) → start ≡ min skipped (length hits)
    → end ≡ min (skipped + size) (length hits) → (skipped < length hits) ⊎ (length hits ≤ skipped)
    → take (end - start) (drop start hits) ≡ take size (drop skipped hits)
part_at hits skipped size start end first last (inl within) =
    part_within hits skipped size start end within first last (cases_lt size (length hits - skipped))
part_at hits skipped size start end first last (inr past) =
    let one : drop start hits ≡ [] = drop_all start hits (omega arith) in
    let other : drop skipped hits ≡ [] = drop_all skipped hits past in
    ap (take (end - start)) one ∙ (take_same (end - start) size [] (inr (omega arith, omega arith))
    ∙ ap (take size) (sym other))

-- from start to end
pub part_is : (hits : List ObjectValue) (number : ℕ) (size : Option ℕ) (start end : ℕ)
    → IsPart (length hits) number size start end
    → take (end - start) (drop start hits) ≡ cut number size hits
part_is hits number None start end (first, last) = rw (first, last) (take_all (length hits - 0) hits (omega arith))
part_is hits number (Some size) start end (first, last) =
    part_at hits (number * size) size start end first last (cases_lt (number * size) (length hits))

-- a sort by a closure that compares so
pub sorted_by : {X F : Type 0} {g : Mut F (Bor X × (Bor X × Unit {0})) Ordering} {f : F} (cmp : X → X → Ordering)
    (xs : List X)
    → IsStrictWeakOrder (λ x y. is_lt (cmp x y))
    → ((lt : X → X → Bool) → IsStrictWeakOrder lt → ComparesAs g lt f → IsSortedBy lt xs)
    → ((a : Bor X × (Bor X × Unit {0})) (r : Ordering) (f' : F) → Called g f a r f' → (r ≡ cmp a.0.now a.1.0.now)
    × (f' ≡ f))
    → IsSortedBy (λ x y. is_lt (cmp x y)) xs
sorted_by {g = g} {f = f} cmp xs strict sorted compares =
    sorted (λ x y. is_lt (cmp x y)) strict
    (always_returns_same g (λ a r. is_lt r ≡ is_lt (cmp a.0.now a.1.0.now)) f
    (λ a r f' k. (ap is_lt (compares a r f' k).0, (compares a r f' k).1)))
