-- Objects that are sorted by their identifiers are the values of their map, in its order.
use Rattle.std.proofs.Common.{◌≡◌, refl, ap, sym, ◌∙◌, ℕ, zero, suc, ◌<◌, nat_eq, List, [], ◌∷◌, length, get_or, map, arith}
use Rattle.std.proofs.Common.{Bool, true, false, ◌&&◌, T, cond, true≢false, Some}
use Rattle.std.proofs.lemmas.Cmp.{nat_list_eq_equiv}
use Rattle.std.proofs.lemmas.List.Sorted.{sorted_far, ranks_by, IsPermutation-map}
use Rattle.std.proofs.lemmas.Map.Keys.{IsDistinct-IsPermutation}
use Rattle.std.specs.Cmp.Lexicographic.{pointwise, same_text, nat_list_cmp_total}
use Rattle.std.specs.FinMap as finite
use Rattle.std.specs.FinMap.Entries.{below_all}
use Rattle.std.specs.List.{AllByRecursion, IsDistinct}
use Rattle.std.specs.List.Sorted.{IsPermutation, IsSortedBy}
use Rattle.std.specs.Map.{keys_of, lookup}
use Rattle.std.specs.Ordering.{is_lt, is_eq, ordering_reverse}
use Rattle.std.proofs.lemmas.Fn.{always_returns_same}
use Rattle.std.specs.Cmp.{IsStrictWeakOrder}
use Rattle.std.specs.Fn.{Called, ComparesAs}
use denote.Param.Members.{Mut}
use denote.Ref.{Bor}
use Rattle.std.specs.declared.cmp.Ordering.{Ordering}
use Rattle.std.specs.declared.cmp.Ordering.TheVariants.{Less, Equal, Greater}
use Rattle.indexmap.proofs.MapLemmas.{lookup_permutation}
use Rattle.dobj_model.specs.declared.object.ObjectValue.{ObjectValue}
use Rattle.repo_state.specs.Least.{id_cmp}
use Rattle.repo_state.specs.Rows.{Row, objects_in}
use Rattle.repo_state.proofs.MapLemmas.{same_id, same_objects}

both : (a b : Bool) → a ≡ true → T b → T (a && b)
both true b p q = q
both false b p q = absurd (true≢false (sym p))

pair : (a b : Bool) → T a → T b → T (a && b)
pair true b p q = q
pair false b p q = absurd p

-- of two keys that differ, one that isn't above is below
below_other : (k j : List ℕ) → is_lt (id_cmp j k) ≡ false → pointwise nat_eq k j ≡ false → is_lt (id_cmp k j) ≡ true
below_other k j low differ =
    by (id_cmp k j) refl (sym (ap is_lt (nat_list_cmp_total.antisymm j k)) ∙ low) (same_id k j ∙ differ)
  where
    by : (r : Ordering) → id_cmp k j ≡ r → is_lt (ordering_reverse (id_cmp k j)) ≡ false → is_eq (id_cmp k j) ≡ false
        → is_lt (id_cmp k j) ≡ true
    by Less e low differ = ap is_lt e
    by Equal e low differ = absurd (true≢false (sym (ap is_eq e) ∙ differ))
    by Greater e low differ = absurd (true≢false (sym (ap (λ r. is_lt (ordering_reverse r)) e) ∙ low))

module _ {X : Type 0} (key : X → List ℕ) (value : X → ObjectValue) where
  abbrev pub row : X → Row
  row x = (key x, value x)

  below_rest : (k : List ℕ) (xs : List X)
      → ((j : ℕ) (d : X) → j < length xs → is_lt (id_cmp (key (get_or xs j d)) k) ≡ false)
      → AllByRecursion (λ y. pointwise nat_eq k y ≡ false) (keys_of (map row xs)) → T (below_all id_cmp k (map row xs))
  below_rest k [] low differ = tt
  below_rest k (x ∷ xs) low differ =
      both _ _ (below_other k (key x) (low zero x (omega arith)) differ.0)
      (below_rest k xs (λ j d h. low (suc j) d (omega arith)) differ.1)

  strictly : (xs : List X) → IsSortedBy (λ x y. is_lt (id_cmp (key x) (key y))) xs
      → IsDistinct (pointwise nat_eq) (keys_of (map row xs)) → T (finite.is_sorted id_cmp (map row xs))
  unfolding IsDistinct
  strictly xs up = rising xs (λ i j d h w. sorted_far _ (ranks_by nat_list_cmp_total key) xs up i j d (omega arith) w)
    where
      rising : (xs : List X)
          → ((i j : ℕ) (d : X) → i < j → j < length xs
          → is_lt (id_cmp (key (get_or xs j d)) (key (get_or xs i d))) ≡ false)
          → IsDistinct (pointwise nat_eq) (keys_of (map row xs)) → T (finite.is_sorted id_cmp (map row xs))
      rising [] far differ = tt
      rising (x ∷ xs) far differ =
          pair _ _ (below_rest (key x) xs (λ j d h. far zero (suc j) d (omega arith) (omega arith)) differ.0)
          (rising xs (λ i j d h w. far (suc i) (suc j) d (omega arith) (omega arith)) differ.1)

  -- the objects of rows, once they are sorted
  pub ascending_values : (rows : List Row) (xs : List X) → IsPermutation rows (map row xs)
      → IsDistinct (pointwise nat_eq) (keys_of rows) → IsSortedBy (λ x y. is_lt (id_cmp (key x) (key y))) xs
      → map value xs ≡ finite.values (objects_in rows)
  ascending_values rows xs moved differ up =
      sym (seconds xs)
      ∙ ap (map (λ (e : Row). e.1)) (sym (ap finite.entries same ∙ finite.entries-from_sorted id_cmp (map row xs) sorted))
    where
      apart : IsDistinct (pointwise nat_eq) (keys_of (map row xs))
      apart = IsDistinct-IsPermutation (pointwise nat_eq) nat_list_eq_equiv.symm (keys_of rows) (keys_of (map row xs))
          (IsPermutation-map (λ (e : Row). e.0) rows (map row xs) moved) differ

      sorted : T (finite.is_sorted id_cmp (map row xs))
      sorted = strictly xs up apart

      found : (es : List Row) (q : List ℕ) → finite.find id_cmp q es ≡ lookup (pointwise nat_eq q) es
      found [] q = refl
      found (e ∷ es) q = λ i. cond (same_id q e.0 i) (Some e.1) (found es q i)

      test : (q x y : List ℕ) → pointwise nat_eq q x ≡ true → pointwise nat_eq q y ≡ pointwise nat_eq x y
      test q x y e = ap (λ z. pointwise nat_eq z y) (same_text q x (sym e))

      same : objects_in rows ≡ finite.from_sorted (map row xs)
      same = same_objects _ _ (λ q.
          finite.get-from_entries nat_list_cmp_total rows q ∙ found rows q
          ∙ sym (lookup_permutation nat_list_eq_equiv rows (map row xs) moved apart (pointwise nat_eq q) (test q))
          ∙ sym (found (map row xs) q) ∙ sym (finite.get-from_sorted id_cmp (map row xs) q sorted))

      seconds : (xs : List X) → map (λ (e : Row). e.1) (map row xs) ≡ map value xs
      seconds [] = refl
      seconds (x ∷ xs) = ap (λ vs. value x ∷ vs) (seconds xs)

-- a sort by a closure that compares so
pub sorted_by : {X F : Type 0} {g : Mut F (Bor X × (Bor X × Unit {0})) Ordering} {f : F} (cmp : X → X → Ordering)
    (xs : List X)
    → IsStrictWeakOrder (λ x y. is_lt (cmp x y))
    → ((lt : X → X → Bool) → IsStrictWeakOrder lt → ComparesAs g lt f → IsSortedBy lt xs)
    → ((a : Bor X × (Bor X × Unit {0})) (r : Ordering) (f' : F) → Called g f a r f' → (r ≡ cmp a.0.now a.1.0.now)
    × (f' ≡ f))
    → IsSortedBy (λ x y. is_lt (cmp x y)) xs
sorted_by {g = g} {f = f} cmp xs strict sorted compares =
    sorted (λ x y. is_lt (cmp x y)) strict
    (always_returns_same g (λ a r. is_lt r ≡ is_lt (cmp a.0.now a.1.0.now)) f
    (λ a r f' k. (ap is_lt (compares a r f' k).0, (compares a r f' k).1)))
