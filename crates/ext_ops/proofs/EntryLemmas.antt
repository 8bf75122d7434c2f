-- Entries that are trimmed and counted.
use Rattle.std.proofs.Common.{◌≡◌, ℕ, pos, ◌+◌, ◌<◌, max, List, [], ◌∷◌, ◌++◌, length, map, take, drop, get_or, nat_eq, codes, true, false, not, Some, option_map, refl, sym, ap, subst, ◌∙◌, arith}
use Rattle.std.specs.Prelude.{if◌then◌else◌}
use Rattle.std.specs.List.{slice_get, AllByRecursion}
use Rattle.std.specs.List.Sorted.{IsStrictlySortedBy}
use Rattle.std.specs.Map.{keys_of, values_of}
use Rattle.std.specs.BTreeMap.{insert_entry}
use Rattle.std.specs.Ordering.{match_ordering}
use Rattle.std.specs.declared.cmp.Ordering.{Ordering}
use Rattle.std.specs.declared.cmp.Ordering.TheVariants.{Less, Equal, Greater}
use Rattle.std.specs.Cmp.Lexicographic.{pointwise}
use Rattle.std.proofs.lemmas.List.{drop_more, map-append, length-map}
use Rattle.std.proofs.lemmas.Option.{slice_get_within, slice_get-map, slice_get-get_or}
use Rattle.doip_json.specs.Value.{Value, null, truth, whole, text, list, table, entries_from, depth_of, deepest_entry}
use Rattle.doip_json.specs.Sound.{IsAscending}
use Rattle.doip_json.proofs.Ascending.{Pairs, compared, compared_self, above, ascending_take}
use Rattle.doip_json.proofs.Lists.{take_next, entry_read}
use Rattle.ext_ops.specs.Hook.{trimmed_value, trimmed_entry, other_keys, with_count}

last_of_all : (P : List ℕ → Type 0) (es : Pairs) (k : List ℕ) (v : Value) → AllByRecursion P (keys_of (es ++ (k, v) ∷ [])) → P k
last_of_all P [] k v all = all.0
last_of_all P (e ∷ es) k v all = last_of_all P es k v all.1

-- a put at a key above all others adds its entry at the end
pub put_last : (es : Pairs) (k : List ℕ) (v : Value) → IsAscending (keys_of (es ++ (k, v) ∷ [])) → insert_entry compared es k v ≡ es ++ (k, v) ∷ []
unfolding IsStrictlySortedBy
put_last [] k v sorted = refl
put_last (e ∷ es) k v sorted =
    let greater : compared k e.0 ≡ Greater = above k e.0 (last_of_all (λ y. compared e.0 y ≡ Less) es k v sorted.0) in
    rw greater (ap (λ r. e ∷ r) (put_last es k v sorted.1))

-- trimming leaves the keys
pub trimmed_keys : (es : Pairs) → keys_of (map trimmed_entry es) ≡ keys_of es
trimmed_keys [] = refl
trimmed_keys (e ∷ es) = ap (λ r. e.0 ∷ r) (trimmed_keys es)

-- the first entries trimmed, and one more
pub trimmed_more : (es made : Pairs) (i : ℕ) (k : List ℕ) (v w : Value) → IsAscending (keys_of es) → slice_get (keys_of es) i ≡ Some k → slice_get (values_of es) i ≡ Some v
    → made ≡ map trimmed_entry (take i es) → w ≡ trimmed_value v → insert_entry compared made k w ≡ map trimmed_entry (take (i + 1) es)
trimmed_more es made i k v w sorted key value so trim =
    let next : take (i + 1) es ≡ take i es ++ (k, v) ∷ [] = take_next es i (k, v) (entry_read es i k v key value) in
    let all : map trimmed_entry (take (i + 1) es) ≡ map trimmed_entry (take i es) ++ (k, trimmed_value v) ∷ [] =
    ap (map trimmed_entry) next ∙ map-append trimmed_entry (take i es) ((k, v) ∷ []) in
    let keys : keys_of (map trimmed_entry (take i es) ++ (k, trimmed_value v) ∷ []) ≡ keys_of (take (i + 1) es) = ap keys_of (sym all) ∙ trimmed_keys (take (i + 1) es) in
    let last : IsAscending (keys_of (map trimmed_entry (take i es) ++ (k, trimmed_value v) ∷ [])) = subst IsAscending (sym keys) (ascending_take es (i + 1) sorted) in
    ap (λ m. insert_entry compared m k w) so ∙ (ap (insert_entry compared (map trimmed_entry (take i es)) k) trim
    ∙ (put_last (map trimmed_entry (take i es)) k (trimmed_value v) last ∙ sym all))

pub trimmed_depth : (v : Value) → depth_of (trimmed_value v) ≡ depth_of v
trimmed_depth null = refl
trimmed_depth (truth b) = refl
trimmed_depth (whole z) = refl
trimmed_depth (text s) = refl
trimmed_depth (list vs) = refl
trimmed_depth (table es) = refl

-- and the depth
pub trimmed_deepest : (es : Pairs) → deepest_entry (entries_from (map trimmed_entry es)) ≡ deepest_entry (entries_from es)
trimmed_deepest [] = refl
trimmed_deepest (e ∷ es) = ap (λ n. max n (deepest_entry (entries_from (map trimmed_entry es)))) (trimmed_depth e.1) ∙ ap (λ n. max (depth_of e.1) n) (trimmed_deepest es)

-- ---- keys but `count`

-- the other keys of the entries from a place on
others_at : (es : Pairs) (i : ℕ) (k : List ℕ) → slice_get (keys_of es) i ≡ Some k
    → other_keys (drop i es) ≡ (if not (pointwise nat_eq k (codes "count")) then k ∷ other_keys (drop (i + 1) es) else other_keys (drop (i + 1) es))
others_at es i k is =
    let none : List ℕ × Value = ([], null) in
    let within : i < length es = omega (arith, slice_get_within (keys_of es) i k is, length-map es (λ (e : List ℕ × Value). e.0)) in
    let one : List ℕ × Value = get_or es i none in
    let key : Some k ≡ Some one.0 = sym is ∙ (slice_get-map (λ (e : List ℕ × Value). e.0) es i ∙ ap (option_map (λ (e : List ℕ × Value). e.0)) (slice_get-get_or es i none within)) in
    let same : one.0 ≡ k = cc in
    ap other_keys (drop_more es i none within)
    ∙ ap (λ y. if not (pointwise nat_eq y (codes "count")) then y ∷ other_keys (drop (i + 1) es) else other_keys (drop (i + 1) es)) same

-- another key counts
pub count_on : (es : Pairs) (i others : ℕ) (k : List ℕ) → slice_get (keys_of es) i ≡ Some k → not (pointwise nat_eq k (codes "count")) ≡ true
    → others + length (other_keys (drop i es)) ≡ length (other_keys es) → others + 1 + length (other_keys (drop (i + 1) es)) ≡ length (other_keys es)
count_on es i others k is other so =
    let rest : List (List ℕ) = other_keys (drop (i + 1) es) in
    let more : other_keys (drop i es) ≡ k ∷ rest = others_at es i k is ∙ ap (λ b. if b then k ∷ rest else rest) other in
    omega (arith, so, ap (length {A = List ℕ}) more)

-- and `count` doesn't
pub count_not : (es : Pairs) (i others : ℕ) (k : List ℕ) → slice_get (keys_of es) i ≡ Some k → not (pointwise nat_eq k (codes "count")) ≡ false
    → others + length (other_keys (drop i es)) ≡ length (other_keys es) → others + length (other_keys (drop (i + 1) es)) ≡ length (other_keys es)
count_not es i others k is own so =
    let rest : List (List ℕ) = other_keys (drop (i + 1) es) in
    let same : other_keys (drop i es) ≡ rest = others_at es i k is ∙ ap (λ b. if b then k ∷ rest else rest) own in
    omega (arith, so, ap (length {A = List ℕ}) same)

others_here : (e : List ℕ × Value) (es rest : Pairs) (v : Value) → other_keys rest ≡ other_keys es → (o : Ordering) → compared (codes "count") e.0 ≡ o
    → other_keys (match_ordering o ((codes "count", v) ∷ e ∷ es) ((e.0, v) ∷ es) (e ∷ rest)) ≡ other_keys (e ∷ es)
others_here e es rest v later Less is = refl
others_here e es rest v later Equal is = refl
others_here e es rest v later Greater is =
    ap (λ ks. if not (pointwise nat_eq e.0 (codes "count")) then e.0 ∷ ks else ks) later

-- a put at `count` leaves the other keys
pub others_put : (es : Pairs) (v : Value) → other_keys (insert_entry compared es (codes "count") v) ≡ other_keys es
others_put [] v = refl
others_put (e ∷ es) v = others_here e es (insert_entry compared es (codes "count") v) v (others_put es v) (compared (codes "count") e.0) refl

again_here : (k : List ℕ) (e : List ℕ × Value) (es rest : Pairs) (v : Value) → insert_entry compared rest k v ≡ rest → (o : Ordering) → compared k e.0 ≡ o
    → insert_entry compared (match_ordering o ((k, v) ∷ e ∷ es) ((e.0, v) ∷ es) (e ∷ rest)) k v ≡ match_ordering o ((k, v) ∷ e ∷ es) ((e.0, v) ∷ es) (e ∷ rest)
again_here k e es rest v later Less is = rw (compared_self k) refl
again_here k e es rest v later Equal is = rw is refl
again_here k e es rest v later Greater is = rw is (ap (λ r. e ∷ r) later)

-- the same put again changes nothing
pub put_again : (es : Pairs) (k : List ℕ) (v : Value) → insert_entry compared (insert_entry compared es k v) k v ≡ insert_entry compared es k v
put_again [] k v = rw (compared_self k) refl
put_again (e ∷ es) k v = again_here k e es (insert_entry compared es k v) v (put_again es k v) (compared k e.0) refl

pub counted_again : (es : Pairs) → with_count (with_count es) ≡ with_count es
counted_again es =
    let v : Value = whole (pos (length (other_keys es))) in
    ap (λ ks. insert_entry compared (with_count es) (codes "count") (whole (pos (length ks)))) (others_put es v) ∙ put_again es (codes "count") v
