-- From what `serde_json` gives to values: how deep it is, and item by item.
use Rattle.std.proofs.Common.{◌≡◌, ℕ, ◌<◌, ◌≤◌, max, List, [], ◌∷◌, ◌++◌, map, length, get_or, Some, None, option_map, String, Global, string_bytes, string_cmp, refl, sym, ap, ◌∙◌, subst, arith}
use Rattle.std.proofs.Common.{zero, suc, Ordering, append_assoc}
use Rattle.std.proofs.lemmas.List.{map-append}
use Rattle.std.specs.List.{AllByRecursion}
use Rattle.std.specs.List.Sorted.{IsStrictlySortedBy}
use Rattle.std.specs.Map.{keys_of}
use Rattle.std.specs.declared.cmp.Ordering.TheVariants.{Less}
use Rattle.serde_json.specs.Data.{depth, items_depth, members_depth}
use Rattle.serde_json.specs.View.{view, items_view, members_view}
use Rattle.serde_json.specs.declared.value.Value as serde
use Rattle.serde_json.proofs.Views.{Entry}
use Rattle.doip_json.specs.Value.{Value, Values, no_values, value, Entries, no_entries, entry, values_from, entries_from}
use Rattle.doip_json.specs.Read.{value_in, values_in, entries_in}
use Rattle.doip_json.specs.Sound.{IsAscending}
use Rattle.doip_json.proofs.Ascending.{Pairs, compared}

-- ---- how deep

pub items_depth-append : (xs : List serde.Value) (x : serde.Value) → items_depth (items_view (xs ++ x ∷ [])) ≡ max (items_depth (items_view xs)) (depth (view x))
items_depth-append [] x = omega arith
items_depth-append (y ∷ xs) x = omega (arith, items_depth-append xs x)

pub item-le : (xs : List serde.Value) (i : ℕ) (x : serde.Value) → i < length xs → x ≡ get_or xs i x → depth (view x) ≤ items_depth (items_view xs)
item-le [] i x within is = absurd (omega arith)
item-le (y ∷ xs) zero x within is = rw is (omega arith)
item-le (y ∷ xs) (suc i) x within is = omega (arith, item-le xs i x (omega arith) is)

pub members_depth-append : (es fs : List Entry) → members_depth (members_view (es ++ fs)) ≡ max (members_depth (members_view es)) (members_depth (members_view fs))
members_depth-append [] fs = omega arith
members_depth-append (e ∷ es) fs = omega (arith, members_depth-append es fs)

-- ---- item by item

-- values after those of a list
abbrev pub items_after : List Value → Values → Values
items_after [] rest = rest
items_after (v ∷ vs) rest = value v (items_after vs rest)

abbrev pub entries_after : Pairs → Entries → Entries
entries_after [] rest = rest
entries_after (e ∷ es) rest = entry e.0 e.1 (entries_after es rest)

pub items_after-none : (vs : List Value) → items_after vs no_values ≡ values_from vs
items_after-none [] = refl
items_after-none (v ∷ vs) = ap (value v) (items_after-none vs)

pub entries_after-none : (es : Pairs) → entries_after es no_entries ≡ entries_from es
entries_after-none [] = refl
entries_after-none (e ∷ es) = ap (entry e.0 e.1) (entries_after-none es)

items_after-append : (vs : List Value) (v : Value) (rest : Values) → items_after (vs ++ v ∷ []) rest ≡ items_after vs (value v rest)
items_after-append [] v rest = refl
items_after-append (w ∷ vs) v rest = ap (value w) (items_after-append vs v rest)

entries_after-append : (es : Pairs) (k : List ℕ) (v : Value) (rest : Entries) → entries_after (es ++ (k, v) ∷ []) rest ≡ entries_after es (entry k v rest)
entries_after-append [] k v rest = refl
entries_after-append (e ∷ es) k v rest = ap (entry e.0 e.1) (entries_after-append es k v rest)

-- one more item has been converted
pub item_done : (vs : List Value) (x : serde.Value) (xs : List serde.Value) (v : Value) → value_in (view x) ≡ Some v
    → option_map (items_after vs) (values_in (items_view (x ∷ xs))) ≡ option_map (items_after (vs ++ v ∷ [])) (values_in (items_view xs))
item_done vs x xs v is = rw is (elim (values_in (items_view xs)) as (λ o. option_map (items_after vs) (option_map (value v) o) ≡ option_map (items_after (vs ++ v ∷ [])) o) [
  | None ↦ refl
  | Some ws ↦ ap Some (sym (items_after-append vs v ws))
])

pub item_fails : (vs : List Value) (x : serde.Value) (xs : List serde.Value) → value_in (view x) ≡ None → option_map (items_after vs) (values_in (items_view (x ∷ xs))) ≡ None
item_fails vs x xs is = rw is refl

pub entry_done : (es : Pairs) (x : Entry) (xs : List Entry) (v : Value) → value_in (view x.1) ≡ Some v
    → option_map (entries_after es) (entries_in (members_view (x ∷ xs))) ≡ option_map (entries_after (es ++ (string_bytes x.0, v) ∷ [])) (entries_in (members_view xs))
entry_done es x xs v is = rw is (elim (entries_in (members_view xs)) as (λ o. option_map (entries_after es) (option_map (entry (string_bytes x.0) v) o) ≡ option_map (entries_after (es ++ (string_bytes x.0, v) ∷ [])) o) [
  | None ↦ refl
  | Some ws ↦ ap Some (sym (entries_after-append es (string_bytes x.0) v ws))
])

pub entry_fails : (es : Pairs) (x : Entry) (xs : List Entry) → value_in (view x.1) ≡ None → option_map (entries_after es) (entries_in (members_view (x ∷ xs))) ≡ None
entry_fails es x xs is = rw is refl

-- ---- keys

bytes_below : (k : String Global) (ks : List (String Global)) → AllByRecursion (λ y. string_cmp k y ≡ Less) ks → AllByRecursion (λ y. compared (string_bytes k) y ≡ Less) (map string_bytes ks)
bytes_below k [] h = tt
bytes_below k (l ∷ ks) h = (h.0, bytes_below k ks h.1)

strings_ascend : (ks : List (String Global)) → IsStrictlySortedBy string_cmp ks → IsAscending (map string_bytes ks)
unfolding IsStrictlySortedBy
strings_ascend [] h = tt
strings_ascend (k ∷ ks) h = (bytes_below k ks h.0, strings_ascend ks h.1)

all_before : {X : Type 0} (P : X → Type 0) (xs ys : List X) → AllByRecursion P (xs ++ ys) → AllByRecursion P xs
all_before P [] ys h = tt
all_before P (x ∷ xs) ys h = (h.0, all_before P xs ys h.1)

prefix_ascends : {K : Type 0} (c : K → K → Ordering) (xs ys : List K) → IsStrictlySortedBy c (xs ++ ys) → IsStrictlySortedBy c xs
unfolding IsStrictlySortedBy
prefix_ascends c [] ys h = tt
prefix_ascends c (x ∷ xs) ys h = (all_before (λ y. c x y ≡ Less) xs ys h.0, prefix_ascends c xs ys h.1)

-- the keys of the entries so far ascend with the next one
pub next_ascends : (es : Pairs) (done : List Entry) (x : Entry) (rest : List Entry) (v : Value) → keys_of es ≡ map string_bytes (keys_of done) → IsStrictlySortedBy string_cmp (keys_of (done ++ x ∷ rest))
    → IsAscending (keys_of (es ++ (string_bytes x.0, v) ∷ []))
next_ascends es done x rest v same sorted =
    let first : keys_of (done ++ x ∷ rest) ≡ (keys_of done ++ x.0 ∷ []) ++ keys_of rest = map-append (λ e. e.0) done (x ∷ rest) ∙ sym (append_assoc (keys_of done) (x.0 ∷ []) (keys_of rest)) in
    let prefix = prefix_ascends string_cmp (keys_of done ++ x.0 ∷ []) (keys_of rest) (subst (IsStrictlySortedBy string_cmp) first sorted) in
    let keys : map string_bytes (keys_of done ++ x.0 ∷ []) ≡ keys_of (es ++ (string_bytes x.0, v) ∷ []) =
    map-append string_bytes (keys_of done) (x.0 ∷ []) ∙ (ap (λ ks. ks ++ string_bytes x.0 ∷ []) (sym same) ∙ sym (map-append (λ e. e.0) es ((string_bytes x.0, v) ∷ []))) in
    subst IsAscending keys (strings_ascend (keys_of done ++ x.0 ∷ []) prefix)

pub keys_grow : (es : Pairs) (done : List Entry) (x : Entry) (v : Value) → keys_of es ≡ map string_bytes (keys_of done) → keys_of (es ++ (string_bytes x.0, v) ∷ []) ≡ map string_bytes (keys_of (done ++ x ∷ []))
keys_grow es done x v same =
    map-append (λ e. e.0) es ((string_bytes x.0, v) ∷ []) ∙ (ap (λ ks. ks ++ string_bytes x.0 ∷ []) same
    ∙ (sym (map-append string_bytes (keys_of done) (x.0 ∷ [])) ∙ ap (map string_bytes) (sym (map-append (λ e. e.0) done (x ∷ [])))))

pub no_items : {X : Type 0} (xs : List X) → length xs ≡ 0 → xs ≡ []
no_items [] h = refl
no_items (x ∷ xs) h = absurd (omega arith)
