-- The least key of a finite map whose value passes a test. This project's own.
use Rattle.std.specs.Prelude.{ℕ, List, [], ◌∷◌, Bool, true, false, cond, Option, Some, None}
use Rattle.std.specs.Ordering.{nat_cmp, is_lt}
use Rattle.std.specs.declared.cmp.Ordering.{Ordering}
use Rattle.std.specs.Cmp.Lexicographic.{slice_cmp}
use Rattle.std.specs.FinMap as map

-- the order of identifiers, by their bytes
abbrev pub id_cmp : List ℕ → List ℕ → Ordering
id_cmp = slice_cmp nat_cmp

-- the first key whose value passes, in the order of a list
abbrev pub first_such : {X : Type 0} → (List ℕ → X → Bool) → List (List ℕ × X) → Option (List ℕ)
first_such passes [] = None
first_such passes (e ∷ es) = cond (passes e.0 e.1) (Some e.0) (first_such passes es)

-- the least key whose value passes
abbrev pub least : {X : Type 0} → (List ℕ → X → Bool) → map.FinMap id_cmp X → Option (List ℕ)
least passes m = first_such passes (map.entries m)

-- the lesser of a key that may pass and the least so far
abbrev pub lesser : Bool → List ℕ → Option (List ℕ) → Option (List ℕ)
lesser false key best = best
lesser true key None = Some key
lesser true key (Some b) = cond (is_lt (id_cmp key b)) (Some key) (Some b)

-- the least key of entries in any order
abbrev pub least_of : {X : Type 0} → (List ℕ → X → Bool) → List (List ℕ × X) → Option (List ℕ)
least_of passes [] = None
least_of passes (e ∷ es) = lesser (passes e.0 e.1) e.0 (least_of passes es)
