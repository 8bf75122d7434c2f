-- The files of a host in memory are found by the bytes of their paths.
use Rattle.std.proofs.Common.{◌≡◌, List, [], ◌∷◌, map, Bool, Option, Some, cond, ap, refl, true, false}
use Rattle.std.specs.Map.{lookup, remove_entry}
use Rattle.std.specs.BTreeMap.{insert_entry}
use Rattle.std.specs.declared.cmp.Ordering.{Ordering}
use Rattle.std.specs.declared.cmp.Ordering.TheVariants.{Less, Equal, Greater}
use Rattle.std.specs.Ordering.{match_ordering}

module _ {K J X : Type 0} (name : K → J) where
  -- the entries with their keys by name
  abbrev pub named : List (K × X) → List (J × X)
  named es = map (λ e. (name e.0, e.1)) es

  -- a value that is put at a name is put at the key of that name
  pub insert_named : (order : J → J → Ordering) (es : List (K × X)) (k : K) (x : X) →
      insert_entry order (named es) (name k) x ≡ named (insert_entry (λ a b. order (name a) (name b)) es k x)
  insert_named order [] k x = refl
  insert_named order (e ∷ es) k x = by_order (order (name k) (name e.0)) (insert_named order es k x)
    where
      by_order : (o : Ordering) →
          insert_entry order (named es) (name k) x ≡ named (insert_entry (λ a b. order (name a) (name b)) es k x) →
          match_ordering o ((name k, x) ∷ (name e.0, e.1) ∷ named es) ((name e.0, x) ∷ named es)
          ((name e.0, e.1) ∷ insert_entry order (named es) (name k) x)
          ≡ named (match_ordering o ((k, x) ∷ e ∷ es) ((e.0, x) ∷ es)
          (e ∷ insert_entry (λ a b. order (name a) (name b)) es k x))
      by_order Less same = refl
      by_order Equal same = refl
      by_order Greater same = ap (λ (r : List (J × X)). (name e.0, e.1) ∷ r) same

  module _ (test : J → Bool) where
    -- what is found under a name is what is found under a key of that name
    pub lookup_named : (es : List (K × X)) → lookup test (named es) ≡ lookup (λ k. test (name k)) es
    lookup_named [] = refl
    lookup_named (e ∷ es) = ap (λ (r : Option X). cond (test (name e.0)) (Some e.1) r) (lookup_named es)

    -- what is left without a name is what is left without a key of that name
    pub remove_named : (es : List (K × X)) →
        remove_entry test (named es) ≡ named (remove_entry (λ k. test (name k)) es)
    remove_named [] = refl
    remove_named (e ∷ es) = by_test (test (name e.0)) (remove_named es)
      where
        by_test : (found : Bool) → remove_entry test (named es) ≡ named (remove_entry (λ k. test (name k)) es) →
            cond found (named es) ((name e.0, e.1) ∷ remove_entry test (named es))
            ≡ named (cond found es (e ∷ remove_entry (λ k. test (name k)) es))
        by_test true same = refl
        by_test false same = ap (λ (r : List (J × X)). (name e.0, e.1) ∷ r) same
