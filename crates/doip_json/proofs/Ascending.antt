-- Entries that ascend: an entry put among them, and a key found among them.
use Rattle.std.proofs.Common.{◌≡◌, ℕ, zero, suc, ◌<◌, ◌≤◌, List, [], ◌∷◌, length, set, refl, sym, ap, ◌∙◌, arith}
use Rattle.std.proofs.Common.{◌+◌, inl, inr, take}
use Rattle.std.proofs.lemmas.Bool.{cases_lt}
use Rattle.std.specs.Map.{keys_of}
use Rattle.std.specs.List.{insert, AllByRecursion}
use Rattle.std.specs.List.Sorted.{IsStrictlySortedBy}
use Rattle.std.specs.Ordering.{nat_cmp, match_ordering, ordering_reverse, is_eq}
use Rattle.std.specs.declared.cmp.Ordering.{Ordering}
use Rattle.std.specs.declared.cmp.Ordering.TheVariants.{Less, Equal, Greater}
use Rattle.std.specs.Cmp.Lexicographic.{slice_cmp, nat_list_cmp_total, same_text, texts_ties}
use Rattle.std.specs.BTreeMap.{insert_entry}
use Rattle.doip_json.specs.Value.{Value}
use Rattle.doip_json.specs.Sound.{IsAscending}
use Rattle.doip_json.specs.Places.{key_of}

abbrev pub Pairs : Type 0
Pairs = List (List ℕ × Value)

abbrev pub compared : List ℕ → List ℕ → Ordering
compared = slice_cmp nat_cmp

all_map : {X : Type 0} (P Q : X → Type 0) → ((x : X) → P x → Q x) → (xs : List X) → AllByRecursion P xs → AllByRecursion Q xs
all_map P Q f [] h = tt
all_map P Q f (x ∷ xs) h = (f x h.0, all_map P Q f xs h.1)

own_reverse : (o : Ordering) → o ≡ ordering_reverse o → o ≡ Equal
own_reverse Less e = cc
own_reverse Equal e = refl
own_reverse Greater e = cc

pub compared_self : (k : List ℕ) → compared k k ≡ Equal
compared_self k = own_reverse (compared k k) (nat_list_cmp_total.antisymm k k)

pub above : (k l : List ℕ) → compared l k ≡ Less → compared k l ≡ Greater
above k l e = nat_list_cmp_total.antisymm k l ∙ ap ordering_reverse e

pub below : (k l : List ℕ) → compared k l ≡ Greater → compared l k ≡ Less
below k l e = nat_list_cmp_total.antisymm l k ∙ ap ordering_reverse e

pub equal_same : (k l : List ℕ) → compared k l ≡ Equal → k ≡ l
equal_same k l e = same_text k l (sym (texts_ties k l ∙ ap is_eq e))

all_put : (P : List ℕ → Type 0) (es : Pairs) (k : List ℕ) (v : Value) → AllByRecursion P (keys_of es) → P k → AllByRecursion P (keys_of (insert_entry compared es k v))
all_put P [] k v all one = (one, tt)
all_put P (e ∷ es) k v all one =
    elim (compared k e.0) as (λ o. AllByRecursion P (keys_of (match_ordering o ((k, v) ∷ e ∷ es) ((e.0, v) ∷ es) (e ∷ insert_entry compared es k v)))) [
      | Less ↦ (one, all)
      | Equal ↦ all
      | Greater ↦ (all.0, all_put P es k v all.1 one)
    ]

put_cases : (e : List ℕ × Value) (es rest : Pairs) (k : List ℕ) (v : Value) → IsAscending (keys_of (e ∷ es)) → AllByRecursion (λ y. compared e.0 y ≡ Less) (keys_of es)
    → (compared k e.0 ≡ Greater → AllByRecursion (λ y. compared e.0 y ≡ Less) (keys_of rest) × IsAscending (keys_of rest))
    → (o : Ordering) → compared k e.0 ≡ o → IsAscending (keys_of (match_ordering o ((k, v) ∷ e ∷ es) ((e.0, v) ∷ es) (e ∷ rest)))
unfolding IsStrictlySortedBy
put_cases e es rest k v sorted first later Less is =
    ((is, all_map (λ y. compared e.0 y ≡ Less) (λ y. compared k y ≡ Less) (λ y h. nat_list_cmp_total.trans k e.0 y is h) (keys_of es) first), sorted)
put_cases e es rest k v sorted first later Equal is = sorted
put_cases e es rest k v sorted first later Greater is = later is

-- the keys ascend as before after a put
pub ascending_put : (es : Pairs) (k : List ℕ) (v : Value) → IsAscending (keys_of es) → IsAscending (keys_of (insert_entry compared es k v))
unfolding IsStrictlySortedBy
ascending_put [] k v sorted = (tt, tt)
ascending_put (e ∷ es) k v sorted =
    put_cases e es (insert_entry compared es k v) k v sorted sorted.0
    (λ is. (all_put (λ y. compared e.0 y ≡ Less) es k v sorted.0 (below k e.0 is), ascending_put es k v sorted.1)) (compared k e.0) refl

key_among : (P : List ℕ → Type 0) (es : Pairs) (i : ℕ) → AllByRecursion P (keys_of es) → i < length es → P (key_of es i)
key_among P [] i all within = absurd (omega arith)
key_among P (e ∷ es) zero all within = all.0
key_among P (e ∷ es) (suc i) all within = key_among P es i all.1 (omega arith)

-- an earlier key is below a later one
pub earlier_below : (es : Pairs) (i j : ℕ) → IsAscending (keys_of es) → i < j → j < length es → compared (key_of es i) (key_of es j) ≡ Less
unfolding IsStrictlySortedBy
earlier_below [] i j sorted before within = absurd (omega arith)
earlier_below (e ∷ es) i zero sorted before within = absurd (omega arith)
earlier_below (e ∷ es) zero (suc j) sorted before within = key_among (λ y. compared e.0 y ≡ Less) es j sorted.0 (omega arith)
earlier_below (e ∷ es) (suc i) (suc j) sorted before within = earlier_below es i j sorted.1 (omega arith) (omega arith)

-- a put at a key that is there writes its entry over
pub put_there : (es : Pairs) (k : List ℕ) (v : Value) (i : ℕ) → IsAscending (keys_of es) → i < length es → key_of es i ≡ k → insert_entry compared es k v ≡ set es i (k, v)
unfolding IsStrictlySortedBy
put_there [] k v i sorted within has = absurd (omega arith)
put_there (e ∷ es) k v zero sorted within has =
    let same : compared k e.0 ≡ Equal = ap (compared k) has ∙ compared_self k in
    rw same (ap (λ l. (l, v) ∷ es) has)
put_there (e ∷ es) k v (suc i) sorted within has =
    let less : compared e.0 (key_of es i) ≡ Less = key_among (λ y. compared e.0 y ≡ Less) es i sorted.0 (omega arith) in
    let greater : compared k e.0 ≡ Greater = above k e.0 (sym (ap (compared e.0) has) ∙ less) in
    rw greater (ap (λ r. e ∷ r) (put_there es k v i sorted.1 (omega arith) has))

-- a put at a key that isn't there adds an entry in the gap
pub put_in_gap : (es : Pairs) (k : List ℕ) (v : Value) (i : ℕ) → i ≤ length es → ((j : ℕ) → j < i → compared (key_of es j) k ≡ Less) → ((j : ℕ) → i ≤ j → j < length es → compared (key_of es j) k ≡ Greater)
    → insert_entry compared es k v ≡ insert es i (k, v)
put_in_gap [] k v zero within lower greater = refl
put_in_gap [] k v (suc i) within lower greater = absurd (omega arith)
put_in_gap (e ∷ es) k v zero within lower greater = rw (below e.0 k (greater zero (omega arith) (omega arith))) refl
put_in_gap (e ∷ es) k v (suc i) within lower greater =
    rw (above k e.0 (lower zero (omega arith))) (ap (λ r. e ∷ r) (put_in_gap es k v i (omega arith) (λ j h. lower (suc j) (omega arith)) (λ j h g. greater (suc j) (omega arith) (omega arith))))

-- where the key at place m is below k, so is each one before it
pub keys_before : (es : Pairs) (k : List ℕ) (m : ℕ) → IsAscending (keys_of es) → m < length es → compared (key_of es m) k ≡ Less → (j : ℕ) → j < m + 1 → compared (key_of es j) k ≡ Less
keys_before es k m sorted within less j before =
    elim (cases_lt j m) [
      | inl earlier ↦ nat_list_cmp_total.trans (key_of es j) (key_of es m) k (earlier_below es j m sorted earlier within) less
      | inr later ↦ let same : j ≡ m = omega arith in rw same less
    ]

-- where the key at place m is above k, so is each one from it on
pub keys_after : (es : Pairs) (k : List ℕ) (m : ℕ) → IsAscending (keys_of es) → compared (key_of es m) k ≡ Greater → (j : ℕ) → m ≤ j → j < length es → compared (key_of es j) k ≡ Greater
keys_after es k m sorted greater j after within =
    elim (cases_lt m j) [
      | inl later ↦ above (key_of es j) k (nat_list_cmp_total.trans k (key_of es m) (key_of es j) (below (key_of es m) k greater) (earlier_below es m j sorted later within))
      | inr earlier ↦ let same : j ≡ m = omega arith in rw same greater
    ]

all_take : (P : List ℕ → Type 0) (es : Pairs) (n : ℕ) → AllByRecursion P (keys_of es) → AllByRecursion P (keys_of (take n es))
all_take P [] zero all = tt
all_take P [] (suc n) all = tt
all_take P (e ∷ es) zero all = tt
all_take P (e ∷ es) (suc n) all = (all.0, all_take P es n all.1)

-- the first entries ascend too
pub ascending_take : (es : Pairs) (n : ℕ) → IsAscending (keys_of es) → IsAscending (keys_of (take n es))
unfolding IsStrictlySortedBy
ascending_take [] zero sorted = tt
ascending_take [] (suc n) sorted = tt
ascending_take (e ∷ es) zero sorted = tt
ascending_take (e ∷ es) (suc n) sorted = (all_take (λ y. compared e.0 y ≡ Less) es n sorted.0, ascending_take es n sorted.1)
