-- Arrays, an item at a time.
use Rattle.std.proofs.Common.{◌≡◌, ℕ, ◌+◌, ◌<◌, Bool, true, false, List, [], ◌∷◌, ◌++◌, length, get_or, drop, map}
use Rattle.std.proofs.Common.{nat_eq, Some, None, codes, refl, sym, ap, ◌∙◌}
use Rattle.std.specs.Prelude.{◌||◌}
use Rattle.std.specs.Option.{option_or}
use Rattle.std.specs.Cmp.Lexicographic.{pointwise}
use Rattle.std.specs.List.{list_any, find, flat_map}
use Rattle.std.proofs.lemmas.List.{drop_more}
use Rattle.std.proofs.lemmas.List.Folds.{list_any-append, find-append}
use Rattle.doip_json.specs.declared.value.Json.{Json}
use Rattle.doip_json.specs.Value.{Value, list, values_from, values_in}
use Rattle.doip_json.specs.Meaning.{value_of}
use Rattle.dobj_field.specs.Reach.{led_to}

values_back : (vs : List Value) → values_in (values_from vs) ≡ vs
values_back [] = refl
values_back (v ∷ vs) = ap (λ ws. v ∷ ws) (values_back vs)

-- tokens whose first is `_`, at an array
pub over_array : (tokens : List (List ℕ)) (token : List ℕ) (rest : List (List ℕ)) (vs : List Value)
    → tokens ≡ token ∷ rest
    → pointwise nat_eq token (codes "_") ≡ true → led_to tokens (list (values_from vs)) ≡ flat_map (led_to rest) vs
over_array tokens token rest vs are same = rw (are, same) (ap (flat_map (led_to rest)) (values_back vs))

item_next : (items : List Json) (i : ℕ) (item : Json) → i < length items → item ≡ get_or items i item
    → map value_of (drop i items) ≡ value_of item ∷ map value_of (drop (i + 1) items)
item_next items i item within is =
    ap (map value_of) (drop_more items i item within ∙ ap (λ x. x ∷ drop (i + 1) items) (sym is))

any_next : (p : Value → Bool) (f : Value → List Value) (items : List Json) (i : ℕ) (item : Json) → i < length items
    → item ≡ get_or items i item
    → list_any p (flat_map f (map value_of (drop i items)))
    ≡ (list_any p (f (value_of item)) || list_any p (flat_map f (map value_of (drop (i + 1) items))))
any_next p f items i item within is =
    ap (λ vs. list_any p (flat_map f vs)) (item_next items i item within is)
    ∙ list_any-append p (f (value_of item)) (flat_map f (map value_of (drop (i + 1) items)))

pub any_hit : (p : Value → Bool) (f : Value → List Value) (items : List Json) (i : ℕ) (item : Json) → i < length items
    → item ≡ get_or items i item
    → list_any p (f (value_of item)) ≡ true → list_any p (flat_map f (map value_of (drop i items))) ≡ true
any_hit p f items i item within is hit =
    any_next p f items i item within is ∙ ap (λ b. b || list_any p (flat_map f (map value_of (drop (i + 1) items)))) hit

pub any_miss : (p : Value → Bool) (f : Value → List Value) (items : List Json) (i : ℕ) (item : Json) → i < length items
    → item ≡ get_or items i item
    → list_any p (f (value_of item)) ≡ false
    → list_any p (flat_map f (map value_of (drop i items))) ≡ list_any p
    (flat_map f (map value_of (drop (i + 1) items)))
any_miss p f items i item within is miss =
    any_next p f items i item within is
    ∙ ap (λ b. b || list_any p (flat_map f (map value_of (drop (i + 1) items)))) miss

find_first : (p : Value → Bool) (xs ys : List Value) (x : Value) → find p xs ≡ Some x → find p (xs ++ ys) ≡ Some x
find_first p xs ys x hit = find-append p xs ys ∙ ap (λ o. option_or o (find p ys)) hit

find_later : (p : Value → Bool) (xs ys : List Value) → find p xs ≡ None → find p (xs ++ ys) ≡ find p ys
find_later p xs ys miss = find-append p xs ys ∙ ap (λ o. option_or o (find p ys)) miss

pub find_hit : (p : Value → Bool) (f : Value → List Value) (items : List Json) (i : ℕ) (item : Json) (x : Value)
    → i < length items → item ≡ get_or items i item
    → find p (f (value_of item)) ≡ Some x → find p (flat_map f (map value_of (drop i items))) ≡ Some x
find_hit p f items i item x within is hit =
    ap (λ vs. find p (flat_map f vs)) (item_next items i item within is)
    ∙ find_first p (f (value_of item)) (flat_map f (map value_of (drop (i + 1) items))) x hit

pub find_miss : (p : Value → Bool) (f : Value → List Value) (items : List Json) (i : ℕ) (item : Json)
    → i < length items → item ≡ get_or items i item
    → find p (f (value_of item)) ≡ None
    → find p (flat_map f (map value_of (drop i items))) ≡ find p (flat_map f (map value_of (drop (i + 1) items)))
find_miss p f items i item within is miss =
    ap (λ vs. find p (flat_map f vs)) (item_next items i item within is)
    ∙ find_later p (f (value_of item)) (flat_map f (map value_of (drop (i + 1) items))) miss
