-- The page of a set of hits.
use Rattle.std.proofs.Common.{◌≡◌, ◌≢◌, ℕ, ◌⊎◌, inl, inr, Bool, true, false, List, [], ◌∷◌, get_or, Option, refl, sym, ap, ◌∙◌, subst, arith, true≢false}
use Rattle.std.specs.Prelude.{◌&&◌}
use Rattle.std.specs.Cmp.{IsStrictWeakOrder}
use Rattle.std.specs.List.{Contains, filter}
use Rattle.std.specs.List.Sorted.{IsPermutation, IsSorted, IsStrictlySortedBy}
use Rattle.std.specs.Ordering.{is_lt, ordering_reverse, ordering_then}
use Rattle.std.specs.declared.cmp.Ordering.{Ordering}
use Rattle.std.specs.declared.cmp.Ordering.TheVariants.{Less, Equal, Greater}
use Rattle.std.proofs.lemmas.List.Kept.{AllPairs-filter}
use Rattle.std.proofs.lemmas.List.Sorted.{IsPermutation-keeps, IsPermutation-sym, Contains-permutation, sorted_far, ranks_by}
use Rattle.std.proofs.lemmas.Map.Lookups.{exact_bytes}
use Rattle.dobj_model.specs.declared.object.ObjectValue.{ObjectValue}
use Rattle.query_text.specs.Query.{Disjunction}
use Rattle.query_text.proofs.CutLemmas.{both}
use Rattle.query_core.specs.declared.order.SortKey.{SortKey}
use Rattle.query_core.specs.Meaning.{holds}
use Rattle.query_core.specs.Order.{by_key, by_keys}
use Rattle.query_core.specs.Hits.{IsHit, AreApart, AreTheHits}
use Rattle.query_core.specs.Page.{cut, IsPage, IsPageOf}
use Rattle.query_core.proofs.OrderLemmas.{by_keys_total}
use Rattle.query_core.proofs.StrictLemmas.{head_in, tail_in, in_cases, none_in, one_order, strict_from, pairs_swap}

-- objects apart stay so when they are moved
pub apart_moved : (hits sorted : List ObjectValue) → IsPermutation hits sorted → AreApart hits → AreApart sorted
apart_moved hits sorted moved apart =
    IsPermutation-keeps hits AreApart apart
    (λ l a b one two pairs. pairs_swap (λ (x y : ObjectValue). x.id ≢ y.id) (λ x y other is. other (sym is)) l a b one
    two pairs) sorted moved

-- objects that tie have one identifier
same_id : (keys : List SortKey) (a b : ObjectValue) → by_keys keys a b ≡ Equal → a.id ≡ b.id
same_id [] a b ties = exact_bytes a.id b.id ties
same_id (key ∷ keys) a b ties = same_id keys a b (by_first (by_key key a b) ties)
  where
    by_first : (one : Ordering) → ordering_then one (by_keys keys a b) ≡ Equal → by_keys keys a b ≡ Equal
    by_first Less is = cc
    by_first Equal is = is
    by_first Greater is = cc

pub strict : (keys : List SortKey) (sorted : List ObjectValue) → IsSorted (by_keys keys) sorted → AreApart sorted
    → IsStrictlySortedBy (by_keys keys) sorted
strict keys sorted ascends apart =
    strict_from (by_keys_total keys) sorted (λ i j d below inside. less (get_or sorted i d) (get_or sorted j d)
    (apart i j d below inside)
    (sorted_far (λ x y. is_lt (by_keys keys x y)) weak sorted ascends i j d (omega arith) inside))
  where
    weak : IsStrictWeakOrder (λ (x y : ObjectValue). is_lt (by_keys keys x y))
    weak = ranks_by (by_keys_total keys) (λ (x : ObjectValue). x)

    turned : (a b : ObjectValue) (back : Ordering) → by_keys keys b a ≡ back → a.id ≢ b.id → is_lt back ≡ false
        → by_keys keys a b ≡ Less
    turned a b Less is other never = absurd (true≢false never)
    turned a b Equal is other never = absurd (other (sym (same_id keys b a is)))
    turned a b Greater is other never = (by_keys_total keys).antisymm a b ∙ ap ordering_reverse is

    less : (a b : ObjectValue) → a.id ≢ b.id → is_lt (by_keys keys b a) ≡ false → by_keys keys a b ≡ Less
    less a b other never = turned a b (by_keys keys b a) refl other never

-- A page of a list that has the hits of a set, each once, is that of the set.
pub page_of_set : (Hit : ObjectValue → Type 0) (keys : List SortKey) (hits page : List ObjectValue) (number : ℕ)
    (size : Option ℕ)
    → AreTheHits Hit hits → IsPage keys hits number size page → IsPageOf keys Hit number size page
page_of_set Hit keys hits page number size are p = record {
  sorted = p.sorted;
  in_order = record {
    ascend = strict keys p.sorted p.ascends (apart_moved hits p.sorted p.all are.apart);
    all = λ object hit. Contains-permutation hits p.sorted object p.all (are.all object hit);
    only =
        λ object there. are.only object
        (Contains-permutation p.sorted hits object (IsPermutation-sym hits p.sorted p.all) there);
  };
  are = p.are;
}

-- a set of hits has one page
pub one_page : (Hit : ObjectValue → Type 0) (keys : List SortKey) (page other : List ObjectValue) (number : ℕ)
    (size : Option ℕ)
    → IsPageOf keys Hit number size page → IsPageOf keys Hit number size other → page ≡ other
one_page Hit keys page other number size p q =
    let same : p.sorted ≡ q.sorted = one_order (by_keys_total keys) p.sorted q.sorted p.in_order.ascend
    q.in_order.ascend (λ object there. q.in_order.all object (p.in_order.only object there))
    (λ object there. p.in_order.all object (q.in_order.only object there)) in
    p.are ∙ (ap (cut number size) same ∙ sym q.are)

pub themselves : (hits : List ObjectValue) → AreApart hits → AreTheHits (Contains hits) hits
themselves hits apart = record { all = λ object there. there; only = λ object there. there; apart = apart }

pub same_hits : (keys : List SortKey) (hits others page other : List ObjectValue) (number : ℕ) (size : Option ℕ)
    → AreApart hits → AreTheHits (Contains hits) others
    → IsPage keys hits number size page → IsPage keys others number size other → page ≡ other
same_hits keys hits others page other number size apart same p q =
    one_page (Contains hits) keys page other number size
    (page_of_set (Contains hits) keys hits page number size (themselves hits apart) p)
    (page_of_set (Contains hits) keys others other number size same q)

-- what a filter keeps
kept : (p : ObjectValue → Bool) (xs : List ObjectValue) (z : ObjectValue) → Contains xs z → p z ≡ true
    → Contains (filter p xs) z
kept p [] z there passes = there
kept p (x ∷ xs) z there passes = by_test (p x) refl (in_cases x xs z there) (λ later. kept p xs z later passes)
  where
    by_test : (b : Bool) → p x ≡ b → (x ≡ z) ⊎ Contains xs z → (Contains xs z → Contains (filter p xs) z)
        → Contains (filter p (x ∷ xs)) z
    by_test true is (inl same) on = rw is (subst (Contains (x ∷ filter p xs)) same (head_in x (filter p xs)))
    by_test true is (inr later) on = rw is (tail_in x (filter p xs) z (on later))
    by_test false is (inl same) on = absurd (true≢false (sym (ap p same ∙ passes) ∙ is))
    by_test false is (inr later) on = rw is (on later)

was_there : (p : ObjectValue → Bool) (xs : List ObjectValue) (z : ObjectValue) → Contains (filter p xs) z
    → Contains xs z × (p z ≡ true)
was_there p [] z there = absurd (none_in z there)
was_there p (x ∷ xs) z there = by_test (p x) refl there (was_there p xs z)
  where
    by_test : (b : Bool) → p x ≡ b → Contains (filter p (x ∷ xs)) z
        → (Contains (filter p xs) z → Contains xs z × (p z ≡ true))
        → Contains (x ∷ xs) z × (p z ≡ true)
    by_test true is inside on = by_place (in_cases x (filter p xs) z (rw is at inside))
      where
        by_place : (x ≡ z) ⊎ Contains (filter p xs) z → Contains (x ∷ xs) z × (p z ≡ true)
        by_place (inl same) = (subst (Contains (x ∷ xs)) same (head_in x xs), sym (ap p same) ∙ is)
        by_place (inr later) = (tail_in x xs z (on later).0, (on later).1)
    by_test false is inside on = let more = on (rw is at inside) in (tail_in x xs z more.0, more.1)

pub scanned : (objects : List ObjectValue) (may_read : ObjectValue → Bool) (query : Disjunction) → AreApart objects
    → AreTheHits (IsHit (Contains objects) may_read query)
    (filter (λ object. may_read object && holds query object) objects)
scanned objects may_read query apart =
    let test : ObjectValue → Bool = λ object. may_read object && holds query object in
    record {
      all = λ object hit. kept test objects object hit.0 (rw (hit.1, hit.2) refl);
      only = λ object there. let was = was_there test objects object there in
          let parts = both (may_read object) (holds query object) was.1 in (was.0, parts.0, parts.1);
      apart = AllPairs-filter (λ (a b : ObjectValue). a.id ≢ b.id) test objects apart;
    }

pub hits_page : (objects hits page : List ObjectValue) (may_read : ObjectValue → Bool) (query : Disjunction)
    (keys : List SortKey) (number : ℕ) (size : Option ℕ)
    → AreTheHits (IsHit (Contains objects) may_read query) hits → IsPage keys hits number size page
    → IsPageOf keys (IsHit (Contains objects) may_read query) number size page
hits_page objects hits page may_read query keys number size are p =
    page_of_set (IsHit (Contains objects) may_read query) keys hits page number size are p
