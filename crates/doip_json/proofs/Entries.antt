-- What the entries of a `JsonMap` mean, read and written at a place.
use Rattle.std.proofs.Common.{◌≡◌, ℕ, zero, suc, ◌<◌, List, [], ◌∷◌, ◌++◌, length, get_or, set, map, Some, option_map, refl, sym, ap, ◌∙◌, subst, arith, IsUtf8}
use Rattle.std.proofs.lemmas.List.{map-set, map-append, get_or-map, length-map}
use Rattle.std.proofs.lemmas.Option.{slice_get-map, slice_get-get_or}
use Rattle.std.specs.List.{insert, slice_get}
use Rattle.std.specs.Map.{keys_of, values_of}
use Rattle.std.specs.BTreeMap.{insert_entry}
use Rattle.doip_json.specs.declared.leaf.Str.{Str}
use Rattle.doip_json.specs.declared.value.Json.{Json}
use Rattle.doip_json.specs.Value.{Value, null, table, entries_from}
use Rattle.doip_json.specs.Meaning.{value_of, pairs_of}
use Rattle.doip_json.specs.Sound.{IsSound, IsAscending}
use Rattle.doip_json.specs.Places.{key_of, IsPlaceOf, IsGapFor}
use Rattle.doip_json.proofs.Ascending.{Pairs, compared, ascending_put, put_there, put_in_gap}
use Rattle.doip_json.proofs.Soundness.{keys_in-entries_from, EntriesAreSound-insert, EntriesAreSound-append}

abbrev pub Kept : Type 0
Kept = List (Str × Json)

abbrev meant : Str × Json → List ℕ × Value
meant e = (e.0, value_of e.1)

pub length-pairs_of : (es : Kept) → length (pairs_of es) ≡ length es
length-pairs_of es = length-map es meant

pair_at : (es : Kept) (i : ℕ) (e : Str × Json) → i < length (pairs_of es) → e ≡ get_or es i e → slice_get (pairs_of es) i ≡ Some (meant e)
pair_at es i e within is =
    let here : i < length es = omega (arith, length-pairs_of es) in
    slice_get-map meant es i ∙ ap (option_map meant) (slice_get-get_or es i e here ∙ ap Some (sym is))

pub key_read : (es : Kept) (i : ℕ) (e : Str × Json) → i < length (pairs_of es) → e ≡ get_or es i e → slice_get (keys_of (pairs_of es)) i ≡ Some e.0
key_read es i e within is = slice_get-map (λ p. p.0) (pairs_of es) i ∙ ap (option_map (λ p. p.0)) (pair_at es i e within is)

pub value_read : (es : Kept) (i : ℕ) (e : Str × Json) → i < length (pairs_of es) → e ≡ get_or es i e → slice_get (values_of (pairs_of es)) i ≡ Some (value_of e.1)
value_read es i e within is = slice_get-map (λ p. p.1) (pairs_of es) i ∙ ap (option_map (λ p. p.1)) (pair_at es i e within is)

pub key_here : (es : Kept) (i : ℕ) (e : Str × Json) → i < length (pairs_of es) → e ≡ get_or es i e → key_of (pairs_of es) i ≡ e.0
key_here es i e within is =
    let here : i < length es = omega (arith, length-pairs_of es) in
    ap (λ p. p.0) (get_or-map meant es i e ([], null) here) ∙ ap (λ x. x.0) (sym is)

pub ascends : (ps : Pairs) → IsSound (table (entries_from ps)) → IsAscending (keys_of ps)
ascends ps sound = subst IsAscending (keys_in-entries_from ps) sound.0

pub sound_put : (ps : Pairs) (k : List ℕ) (v : Value) → IsSound (table (entries_from ps)) → IsUtf8 k → IsSound v → IsSound (table (entries_from (insert_entry compared ps k v)))
sound_put ps k v sound key one =
    (subst IsAscending (sym (keys_in-entries_from (insert_entry compared ps k v))) (ascending_put ps k v (ascends ps sound)), EntriesAreSound-insert ps k v sound.1 key one)

-- the entry at the key's place is written over
pub written_over : (es : Kept) (k : Str) (j : Json) (i : ℕ) (e : Str × Json) → IsSound (table (entries_from (pairs_of es))) → IsPlaceOf k (pairs_of es) i → e ≡ get_or es i e
    → pairs_of (set es i (e.0, j)) ≡ insert_entry compared (pairs_of es) k (value_of j)
written_over es k j i e sound place is =
    let key : e.0 ≡ k = sym (key_here es i e place.within is) ∙ place.has_key in
    map-set meant es i (e.0, j) ∙ ap (λ l. set (pairs_of es) i (l, value_of j)) key
    ∙ sym (put_there (pairs_of es) k (value_of j) i (ascends _ sound) place.within place.has_key)

map-insert : (es : Kept) (i : ℕ) (e : Str × Json) → map meant (insert es i e) ≡ insert (map meant es) i (meant e)
map-insert es zero e = refl
map-insert [] (suc i) e = refl
map-insert (x ∷ es) (suc i) e = ap (λ r. meant x ∷ r) (map-insert es i e)

-- a new entry is added in its gap
pub added : (es : Kept) (k : Str) (j : Json) (i : ℕ) → IsGapFor k (pairs_of es) i → pairs_of (insert es i (k, j)) ≡ insert_entry compared (pairs_of es) k (value_of j)
added es k j i gap = map-insert es i (k, j) ∙ sym (put_in_gap (pairs_of es) k (value_of j) i gap.within gap.lower gap.greater)

-- an entry after the others, if the keys still ascend
pub sound_last : (ps : Pairs) (k : List ℕ) (v : Value) → IsSound (table (entries_from ps)) → IsAscending (keys_of (ps ++ (k, v) ∷ [])) → IsUtf8 k → IsSound v → IsSound (table (entries_from (ps ++ (k, v) ∷ [])))
sound_last ps k v sound sorted key one = (subst IsAscending (sym (keys_in-entries_from (ps ++ (k, v) ∷ []))) sorted, EntriesAreSound-append ps k v sound.1 key one)

pub pairs_of-append : (es : Kept) (k : Str) (j : Json) → pairs_of (es ++ (k, j) ∷ []) ≡ pairs_of es ++ (k, value_of j) ∷ []
pairs_of-append es k j = map-append meant es ((k, j) ∷ [])
