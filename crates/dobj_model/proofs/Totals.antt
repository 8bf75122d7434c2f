-- The length of a text by the totals of its parts.
use Rattle.std.proofs.Common.{◌≡◌, ℕ, zero, suc, ◌+◌, max, List, [], ◌∷◌, ◌++◌, length, take, flat_map, Some, refl}
use Rattle.std.proofs.Common.{arith}
use Rattle.std.proofs.lemmas.List.{length-append}
use Rattle.std.specs.List.{slice_get, join_with_byte}
use Rattle.std.specs.Map.{keys_of, values_of}
use Rattle.doip_json.specs.Value.{Value, list, table, values_from, entries_from}
use Rattle.doip_json.specs.Text.{text_of, item_texts, entry_texts, string_of, escaped}
use Rattle.dobj_model.specs.Lengths.{items_total, entry_total, entries_total}

-- each piece with a byte beside it
abbrev pieces_total : List (List ℕ) → ℕ
pieces_total [] = 0
pieces_total (p ∷ ps) = length p + 1 + pieces_total ps

joined : (p : List ℕ) (ps : List (List ℕ)) → length (join_with_byte 44 (p ∷ ps)) + 1 ≡ pieces_total (p ∷ ps)
joined p [] = omega arith
joined p (q ∷ ps) = omega (arith, length-append p (44 ∷ join_with_byte 44 (q ∷ ps)), joined q ps)

items_pieces : (vs : List Value) → pieces_total (item_texts (values_from vs)) ≡ items_total vs
items_pieces [] = refl
items_pieces (v ∷ vs) = omega (arith, items_pieces vs)

entries_pieces : (es : List (List ℕ × Value)) → pieces_total (entry_texts (entries_from es)) ≡ entries_total es
entries_pieces [] = refl
entries_pieces (e ∷ es) = omega (arith, length-append (string_of e.0) (58 ∷ text_of e.1), entries_pieces es)

-- brackets and commas
bracketed : (ps : List (List ℕ)) (first last : ℕ)
    → length (first ∷ (join_with_byte 44 ps ++ last ∷ [])) ≡ max (pieces_total ps) 1 + 1
bracketed [] first last = omega arith
bracketed (p ∷ ps) first last = omega (arith, joined p ps, length-append (join_with_byte 44 (p ∷ ps)) (last ∷ []))

pub list_total : (vs : List Value) → length (text_of (list (values_from vs))) ≡ max (items_total vs) 1 + 1
list_total vs = omega (arith, bracketed (item_texts (values_from vs)) 91 93, items_pieces vs)

pub table_total : (es : List (List ℕ × Value))
    → length (text_of (table (entries_from es))) ≡ max (entries_total es) 1 + 1
table_total es = omega (arith, bracketed (entry_texts (entries_from es)) 123 125, entries_pieces es)

-- one item more
pub item_next : (vs : List Value) (i : ℕ) (v : Value) → slice_get vs i ≡ Some v
    → items_total (take (i + 1) vs) ≡ items_total (take i vs) + (length (text_of v) + 1)
item_next [] i v e = absurd (cc)
item_next (w ∷ vs) zero v e = let same : w ≡ v = cc in rw (← same) (omega arith)
item_next (w ∷ vs) (suc i) v e =
    let next : suc i + 1 ≡ suc (i + 1) = omega arith in rw next (omega (arith, item_next vs i v e))

-- one entry more
pub entry_next : (es : List (List ℕ × Value)) (i : ℕ) (k : List ℕ) (v : Value) → slice_get (keys_of es) i ≡ Some k
    → slice_get (values_of es) i ≡ Some v
    → entries_total (take (i + 1) es) ≡ entries_total (take i es) + entry_total k v
entry_next [] i k v e f = absurd (cc)
entry_next (w ∷ es) zero k v e f =
    let key : w.0 ≡ k = cc in let same : w.1 ≡ v = cc in rw (← key, ← same) (omega arith)
entry_next (w ∷ es) (suc i) k v e f =
    let next : suc i + 1 ≡ suc (i + 1) = omega arith in rw next (omega (arith, entry_next es i k v e f))

-- a string in quotes
pub string_total : (s : List ℕ) → length (string_of s) ≡ length (flat_map escaped s) + 2
string_total s = omega (arith, length-append (flat_map escaped s) (34 ∷ []))
