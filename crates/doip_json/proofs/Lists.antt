-- Lists that agree at each place, and what a mutual list of values stands for.
use Rattle.std.proofs.Common.{◌≡◌, ℕ, zero, suc, ◌<◌, ◌≤◌, List, [], ◌∷◌, length, Some, refl, sym, ap, ap₂, ◌∙◌, arith}
use Rattle.std.proofs.Common.{◌+◌, ◌++◌, take}
use Rattle.std.proofs.lemmas.List.{take_more}
use Rattle.std.proofs.lemmas.Option.{slice_get_within, get_or_from_slice_get}
use Rattle.std.specs.List.{slice_get}
use Rattle.std.specs.Map.{keys_of, values_of}
use Rattle.doip_json.specs.Pointer.{item_of}
use Rattle.doip_json.specs.Value.{Value, list, table, Values, no_values, value, Entries, no_entries, entry, values_from, entries_from, depth_of, deepest_value, deepest_entry}

pub same_lists : {X : Type 0} (xs ys : List X) → length xs ≡ length ys → ((j : ℕ) → j < length xs → slice_get xs j ≡ slice_get ys j) → xs ≡ ys
same_lists [] [] long same = refl
same_lists [] (y ∷ ys) long same = absurd (omega arith)
same_lists (x ∷ xs) [] long same = absurd (omega arith)
same_lists (x ∷ xs) (y ∷ ys) long same =
    let first : Some x ≡ Some y = same 0 (omega arith) in
    let head : x ≡ y = cc in
    ap₂ (λ z zs. z ∷ zs) head (same_lists xs ys (omega arith) (λ j h. same (suc j) (omega arith)))

abbrev items_in : Values → List Value
items_in no_values = []
items_in (value v vs) = v ∷ items_in vs

abbrev pairs_in : Entries → List (List ℕ × Value)
pairs_in no_entries = []
pairs_in (entry k v es) = (k, v) ∷ pairs_in es

items_in-values_from : (vs : List Value) → items_in (values_from vs) ≡ vs
items_in-values_from [] = refl
items_in-values_from (v ∷ vs) = ap (λ r. v ∷ r) (items_in-values_from vs)

pairs_in-entries_from : (es : List (List ℕ × Value)) → pairs_in (entries_from es) ≡ es
pairs_in-entries_from [] = refl
pairs_in-entries_from (e ∷ es) = ap (λ r. e ∷ r) (pairs_in-entries_from es)

pub same_items : (vs ws : List Value) → list (values_from vs) ≡ list (values_from ws) → vs ≡ ws
same_items vs ws e = let inner : values_from vs ≡ values_from ws = cc in sym (items_in-values_from vs) ∙ (ap items_in inner ∙ items_in-values_from ws)

pub same_entries : (es fs : List (List ℕ × Value)) → table (entries_from es) ≡ table (entries_from fs) → es ≡ fs
same_entries es fs e = let inner : entries_from es ≡ entries_from fs = cc in sym (pairs_in-entries_from es) ∙ (ap pairs_in inner ∙ pairs_in-entries_from fs)

-- an item is no deeper than the deepest
pub item_depth : (vs : List Value) (i : ℕ) (v : Value) → slice_get vs i ≡ Some v → depth_of v ≤ deepest_value (values_from vs)
item_depth [] i v e = absurd (cc)
item_depth (w ∷ vs) zero v e = let same : w ≡ v = cc in rw (← same) (omega arith)
item_depth (w ∷ vs) (suc i) v e = omega (arith, item_depth vs i v e)

pub entry_depth : (es : List (List ℕ × Value)) (i : ℕ) (v : Value) → slice_get (values_of es) i ≡ Some v → depth_of v ≤ deepest_entry (entries_from es)
entry_depth [] i v e = absurd (cc)
entry_depth (w ∷ es) zero v e = let same : w.1 ≡ v = cc in rw (← same) (omega arith)
entry_depth (w ∷ es) (suc i) v e = omega (arith, entry_depth es i v e)

pub take_next : {X : Type 0} (xs : List X) (i : ℕ) (x : X) → slice_get xs i ≡ Some x → take (i + 1) xs ≡ take i xs ++ x ∷ []
take_next xs i x e = take_more xs i x (slice_get_within xs i x e) ∙ ap (λ y. take i xs ++ y ∷ []) (get_or_from_slice_get xs i x x e)

-- an entry with its key and its value
pub entry_read : (es : List (List ℕ × Value)) (i : ℕ) (k : List ℕ) (v : Value) → slice_get (keys_of es) i ≡ Some k → slice_get (values_of es) i ≡ Some v → slice_get es i ≡ Some (k, v)
entry_read [] i k v key one = absurd (cc)
entry_read (e ∷ es) zero k v key one = let first : e.0 ≡ k = cc in let second : e.1 ≡ v = cc in ap₂ (λ x y. Some (x, y)) first second
entry_read (e ∷ es) (suc i) k v key one = entry_read es i k v key one

-- a value that is another at one place makes another list
pub values_differ : (es fs : List (List ℕ × Value)) → es ≡ fs → values_of es ≡ values_of fs
values_differ es fs e = ap values_of e

pub item_of-values_from : (vs : List Value) (i : ℕ) → item_of i (values_from vs) ≡ slice_get vs i
item_of-values_from [] zero = refl
item_of-values_from [] (suc i) = refl
item_of-values_from (v ∷ vs) zero = refl
item_of-values_from (v ∷ vs) (suc i) = item_of-values_from vs i
