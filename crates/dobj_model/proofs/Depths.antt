-- The depth of the first items of an array, and of the first entries of an object.
use Rattle.std.proofs.Common.{◌≡◌, ℕ, zero, suc, ◌+◌, max, List, [], ◌∷◌, take, Some, arith}
use Rattle.std.specs.List.{slice_get}
use Rattle.std.specs.Map.{values_of}
use Rattle.doip_json.specs.Value.{Value, values_from, entries_from, depth_of, deepest_value, deepest_entry}

-- one item more
pub item_deeper : (vs : List Value) (i : ℕ) (v : Value) → slice_get vs i ≡ Some v
    → deepest_value (values_from (take (i + 1) vs)) ≡ max (deepest_value (values_from (take i vs))) (depth_of v)
item_deeper [] i v e = absurd (cc)
item_deeper (w ∷ vs) zero v e = let same : w ≡ v = cc in rw (← same) (omega arith)
item_deeper (w ∷ vs) (suc i) v e =
    let next : suc i + 1 ≡ suc (i + 1) = omega arith in rw next (omega (arith, item_deeper vs i v e))

-- one entry more
pub entry_deeper : (es : List (List ℕ × Value)) (i : ℕ) (v : Value) → slice_get (values_of es) i ≡ Some v
    → deepest_entry (entries_from (take (i + 1) es)) ≡ max (deepest_entry (entries_from (take i es))) (depth_of v)
entry_deeper [] i v e = absurd (cc)
entry_deeper (w ∷ es) zero v e = let same : w.1 ≡ v = cc in rw (← same) (omega arith)
entry_deeper (w ∷ es) (suc i) v e =
    let next : suc i + 1 ≡ suc (i + 1) = omega arith in rw next (omega (arith, entry_deeper es i v e))
