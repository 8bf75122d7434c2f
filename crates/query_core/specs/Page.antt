-- The page of a search. This project's own.
use Rattle.std.specs.Prelude.{◌≡◌, ℕ, ◌+◌, ◌*◌, min, List, take, drop, Option, None, Some}
use Rattle.std.specs.List.{Contains}
use Rattle.std.specs.List.Sorted.{IsPermutation, IsSorted, IsStrictlySortedBy}
use Rattle.dobj_model.specs.declared.object.ObjectValue.{ObjectValue}
use Rattle.query_core.specs.declared.order.SortKey.{SortKey}
use Rattle.query_core.specs.Order.{by_keys}

-- the page of this number, from 0, with so many to a page: without a size, all
abbrev pub cut : ℕ → Option ℕ → List ObjectValue → List ObjectValue
cut number None hits = hits
cut number (Some size) hits = take size (drop (number * size) hits)

-- the hits of a set in order: each of them once, and no others
pub record AreInOrder (keys : List SortKey) (Hit : ObjectValue → Type 0) (sorted : List ObjectValue) : Type 0 where
  pub ascend : IsStrictlySortedBy (by_keys keys) sorted
  pub all : (object : ObjectValue) → Hit object → Contains sorted object
  pub only : (object : ObjectValue) → Contains sorted object → Hit object

-- the page of a set of hits: how they are found, and in which order, is no part of it
pub record IsPageOf (keys : List SortKey) (Hit : ObjectValue → Type 0) (number : ℕ) (size : Option ℕ)
    (page : List ObjectValue) : Type 0 where
  pub sorted : List ObjectValue
  pub in_order : AreInOrder keys Hit sorted
  pub are : page ≡ cut number size sorted

-- the page of a list of hits, in whatever order it has them
pub record IsPage (keys : List SortKey) (hits : List ObjectValue) (number : ℕ) (size : Option ℕ)
    (page : List ObjectValue) : Type 0 where
  pub sorted : List ObjectValue
  pub all : IsPermutation hits sorted
  pub ascends : IsSorted (by_keys keys) sorted
  pub are : page ≡ cut number size sorted

-- the page of so many hits is from start to end
abbrev pub IsPart : ℕ → ℕ → Option ℕ → ℕ → ℕ → Type 0
IsPart len number None start end = (start ≡ 0) × (end ≡ len)
IsPart len number (Some size) start end = (start ≡ min (number * size) len) × (end ≡ min (number * size + size) len)
