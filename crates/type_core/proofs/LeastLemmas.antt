-- The least key of a finite map whose value passes a test, and how a scan in any order finds it.
use Rattle.std.proofs.Common.{◌≡◌, ℕ, List, [], ◌∷◌, Bool, true, false, cond, ◌&&◌, T, Option, Some, None, unwrap_or, is_some, refl, ap, sym, ◌∙◌, nat_eq, true≢false, arith, suc, ◌+◌, length, drop, slice_get}
use Rattle.std.proofs.Math.Seq.{drop-cons}
use Rattle.std.proofs.lemmas.Option.{slice_get_within, get_or_from_slice_get}
use Rattle.std.specs.Cmp.Lexicographic.{pointwise, nat_list_cmp_total, texts_ties, same_text}
use Rattle.std.specs.Cmp.{eq_by_cmp_equiv}
use Rattle.std.specs.declared.cmp.Ordering.{Ordering}
use Rattle.std.specs.declared.cmp.Ordering.TheVariants.{Less, Equal, Greater}
use Rattle.std.specs.Ordering.{eq_by_cmp, is_lt, is_eq, ordering_reverse}
use Rattle.std.specs.List.{AllByRecursion, IsDistinct}
use Rattle.std.specs.FinMap as finite
use Rattle.std.specs.FinMap.Entries.{below_all, by_order}
use Rattle.std.specs.Map.{keys_of}
use Rattle.type_core.specs.Least.{id_cmp, first_such, least, lesser, least_of}

-- two identifiers tie exactly when they are the same text
pub same_id : (q k : List ℕ) → eq_by_cmp id_cmp q k ≡ pointwise nat_eq q k
same_id q k = sym (texts_ties q k)

pub same_id_turned : (q k : List ℕ) → eq_by_cmp id_cmp q k ≡ pointwise nat_eq k q
same_id_turned q k = (eq_by_cmp_equiv nat_list_cmp_total).symm q k ∙ same_id k q

-- two identifiers that tie are one
pub tied_same : (k j : List ℕ) → eq_by_cmp id_cmp k j ≡ true → k ≡ j
tied_same k j e = same_text k j (sym e ∙ same_id k j)

pub both_of : (a b : Bool) → T (a && b) → T a × T b
both_of true b h = (tt, h)
both_of false b h = absurd h

true_of : (a : Bool) → T a → a ≡ true
true_of true h = refl
true_of false h = absurd h

pub some_same : {A : Type 0} (a b : A) → Some a ≡ Some b → a ≡ b
some_same a b e = ap (λ o. unwrap_or o a) e

pub no_some : {A : Type 0} (a : A) → Some a ≡ None → ⊥
no_some a e = true≢false (ap is_some e)

-- an identifier ties with itself
pub level : (k : List ℕ) → id_cmp k k ≡ Equal
level k = by (id_cmp k k) (nat_list_cmp_total.antisymm k k)
  where
    by : (r : Ordering) → r ≡ ordering_reverse r → r ≡ Equal
    by Less e = absurd (true≢false (ap is_lt e))
    by Equal e = refl
    by Greater e = absurd (true≢false (sym (ap is_lt e)))

pub not_below_itself : (k : List ℕ) → is_lt (id_cmp k k) ≡ false
not_below_itself k = ap is_lt (level k)

-- what is below one way is not below the other way
turned_below : (x k : List ℕ) → is_lt (id_cmp x k) ≡ true → is_lt (id_cmp k x) ≡ false
turned_below x k h = ap is_lt (nat_list_cmp_total.antisymm k x) ∙ by (id_cmp x k) h
  where
    by : (r : Ordering) → is_lt r ≡ true → is_lt (ordering_reverse r) ≡ false
    by Less h = refl
    by Equal h = refl
    by Greater h = absurd (true≢false (sym h))

-- below goes on
below_below : (a b c : List ℕ) → is_lt (id_cmp a b) ≡ true → is_lt (id_cmp b c) ≡ true → is_lt (id_cmp a c) ≡ true
below_below a b c = by (id_cmp a b) refl (id_cmp b c) refl
  where
    by : (r : Ordering) → id_cmp a b ≡ r → (s : Ordering) → id_cmp b c ≡ s → is_lt r ≡ true → is_lt s ≡ true
        → is_lt (id_cmp a c) ≡ true
    by Less e Less f u w = ap is_lt (nat_list_cmp_total.trans a b c e f)
    by Less e Equal f u w = absurd (true≢false (sym w))
    by Less e Greater f u w = absurd (true≢false (sym w))
    by Equal e s f u w = absurd (true≢false (sym u))
    by Greater e s f u w = absurd (true≢false (sym u))

-- of two keys neither of which is below the other, each is the other
neither_below : (k j : List ℕ) → is_lt (id_cmp k j) ≡ false → is_lt (id_cmp j k) ≡ false → k ≡ j
neither_below k j a b = by (id_cmp k j) refl a (sym (ap is_lt (nat_list_cmp_total.antisymm j k)) ∙ b)
  where
    by : (r : Ordering) → id_cmp k j ≡ r → is_lt r ≡ false → is_lt (ordering_reverse r) ≡ false → k ≡ j
    by Less e a b = absurd (true≢false a)
    by Equal e a b = tied_same k j (ap is_eq e)
    by Greater e a b = absurd (true≢false b)

module _ {X : Type 0} where
  -- what is found in a list is above each key that is below all of the list
  pub below_found : (x k : List ℕ) (v : X) (es : List (List ℕ × X)) → T (below_all id_cmp x es)
      → finite.find id_cmp k es ≡ Some v → is_lt (id_cmp x k) ≡ true
  below_found x k v [] h f = absurd (no_some v (sym f))
  below_found x k v (e ∷ es) h f = by (below_found x k v es (both_of (is_lt (id_cmp x e.0)) _ h).1)
      (eq_by_cmp id_cmp k e.0) refl f
    where
      by : (finite.find id_cmp k es ≡ Some v → is_lt (id_cmp x k) ≡ true) → (t : Bool) → eq_by_cmp id_cmp k e.0 ≡ t
          → cond t (Some e.1) (finite.find id_cmp k es) ≡ Some v → is_lt (id_cmp x k) ≡ true
      by again true t f = ap (λ y. is_lt (id_cmp x y)) (tied_same k e.0 t) ∙ true_of _ (both_of _ _ h).0
      by again false t f = again f

  module _ (p : List ℕ → X → Bool) where
    none_such : (es : List (List ℕ × X)) → first_such p es ≡ None → (k : List ℕ) (v : X)
        → finite.find id_cmp k es ≡ Some v → p k v ≡ false
    none_such [] e k v f = absurd (no_some v (sym f))
    none_such (x ∷ es) e k v f = by (λ e f. none_such es e k v f) (p x.0 x.1) refl e (eq_by_cmp id_cmp k x.0) refl f
      where
        by : (first_such p es ≡ None → finite.find id_cmp k es ≡ Some v → p k v ≡ false) → (b : Bool)
            → p x.0 x.1 ≡ b
            → cond b (Some x.0) (first_such p es) ≡ None → (t : Bool) → eq_by_cmp id_cmp k x.0 ≡ t
            → cond t (Some x.1) (finite.find id_cmp k es) ≡ Some v → p k v ≡ false
        by again true b e t s f = absurd (no_some x.0 e)
        by again false b e true s f = (λ i. p (tied_same k x.0 s i) (sym (some_same x.1 v f) i)) ∙ b
        by again false b e false s f = again e f

    -- the first that passes is there, and passes
    such_passes : (es : List (List ℕ × X)) → T (finite.is_sorted id_cmp es) → (k : List ℕ) → first_such p es
        ≡ Some k
        → (v : X) × (finite.find id_cmp k es ≡ Some v) × (p k v ≡ true)
    such_passes [] h k e = absurd (no_some k (sym e))
    such_passes (x ∷ es) h k e = by (such_passes es (both_of (below_all id_cmp x.0 es) _ h).1 k) (p x.0 x.1) refl e
      where
        later : (v : X) × (finite.find id_cmp k es ≡ Some v) × (p k v ≡ true)
            → (v : X) × (finite.find id_cmp k (x ∷ es) ≡ Some v) × (p k v ≡ true)
        later r = apart (eq_by_cmp id_cmp k x.0) refl
          where
            apart : (t : Bool) → eq_by_cmp id_cmp k x.0 ≡ t
                → (v : X) × (cond t (Some x.1) (finite.find id_cmp k es) ≡ Some v) × (p k v ≡ true)
            apart false t = r
            apart true t =
                absurd (true≢false (sym (below_found x.0 k r.0 es (both_of _ _ h).0 r.1)
                ∙ ap (λ y. is_lt (id_cmp x.0 y)) (tied_same k x.0 t) ∙ not_below_itself x.0))

        by : (first_such p es ≡ Some k → (v : X) × (finite.find id_cmp k es ≡ Some v) × (p k v ≡ true)) → (b : Bool)
            → p x.0 x.1 ≡ b → cond b (Some x.0) (first_such p es) ≡ Some k
            → (v : X) × (finite.find id_cmp k (x ∷ es) ≡ Some v) × (p k v ≡ true)
        by again true b e =
            let s : x.0 ≡ k = some_same x.0 k e in (
              x.1,
              ap (λ y. cond (eq_by_cmp id_cmp y x.0) (Some x.1) (finite.find id_cmp y es)) (sym s)
                  ∙ ap (λ t. cond t (Some x.1) (finite.find id_cmp x.0 es)) (ap is_eq (level x.0)),
              ap (λ y. p y x.1) (sym s) ∙ b,
            )
        by again false b e = later (again e)

    -- nothing passes where there is no least
    pub least_none : (m : finite.FinMap id_cmp X) → least p m ≡ None → (k : List ℕ) (v : X) → finite.get m k
        ≡ Some v → p k v ≡ false
    least_none m e k v f = none_such (finite.entries m) e k v (sym (finite.get-entries m k) ∙ f)

    -- the least is there, and passes
    pub least_passes : (m : finite.FinMap id_cmp X) (k : List ℕ) → least p m ≡ Some k
        → (v : X) × (finite.get m k ≡ Some v) × (p k v ≡ true)
    least_passes m k e =
        let r = such_passes (finite.entries m) (finite.entries_sorted m) k e in (
          r.0,
          finite.get-entries m k
              ∙ r.1,
          r.2,
        )

    -- and no lesser key has what passes
    such_first : (es : List (List ℕ × X)) → T (finite.is_sorted id_cmp es) → (k : List ℕ) → first_such p es ≡ Some k
        → (j : List ℕ) (v : X) → finite.find id_cmp j es ≡ Some v → p j v ≡ true → is_lt (id_cmp j k) ≡ false
    such_first [] h k e j v f q = absurd (no_some k (sym e))
    such_first (x ∷ es) h k e j v f q =
        by (λ e f. such_first es (both_of (below_all id_cmp x.0 es) _ h).1 k e j v f q) (p x.0 x.1) refl e
        (eq_by_cmp id_cmp j x.0) refl f
      where
        by : (first_such p es ≡ Some k → finite.find id_cmp j es ≡ Some v → is_lt (id_cmp j k) ≡ false) → (b : Bool)
            → p x.0 x.1 ≡ b → cond b (Some x.0) (first_such p es) ≡ Some k → (t : Bool) → eq_by_cmp id_cmp j x.0 ≡ t
            → cond t (Some x.1) (finite.find id_cmp j es) ≡ Some v → is_lt (id_cmp j k) ≡ false
        by again true b e true t f =
            (λ i. is_lt (id_cmp (tied_same j x.0 t i) (sym (some_same x.0 k e) i))) ∙ not_below_itself x.0
        by again true b e false t f =
            ap (λ y. is_lt (id_cmp j y)) (sym (some_same x.0 k e))
            ∙ turned_below x.0 j (below_found x.0 j v es (both_of _ _ h).0 f)
        by again false b e true t f =
            absurd (true≢false (sym q ∙ (λ i. p (tied_same j x.0 t i) (sym (some_same x.1 v f) i)) ∙ b))
        by again false b e false t f = again e f

    pub least_first : (m : finite.FinMap id_cmp X) (k : List ℕ) → least p m ≡ Some k → (j : List ℕ) (v : X)
        → finite.get m j ≡ Some v → p j v ≡ true → is_lt (id_cmp j k) ≡ false
    least_first m k e j v f =
        such_first (finite.entries m) (finite.entries_sorted m) k e j v (sym (finite.get-entries m j) ∙ f)

    -- ---- a scan in any order

    picked : (k : List ℕ) (es : List (List ℕ × X)) → ((j : List ℕ) → first_such p es ≡ Some j
        → is_lt (id_cmp k j) ≡ true)
        → lesser true k (first_such p es) ≡ Some k
    picked k es h = by (first_such p es) h
      where
        by : (r : Option (List ℕ)) → ((j : List ℕ) → r ≡ Some j → is_lt (id_cmp k j) ≡ true)
            → lesser true k r ≡ Some k
        by None h = refl
        by (Some j) h = ap (λ t. cond t (Some k) (Some j)) (h j refl)

    put_least : (k : List ℕ) (v : X) (es : List (List ℕ × X)) → T (finite.is_sorted id_cmp es)
        → finite.find id_cmp k es ≡ None
        → first_such p (finite.put id_cmp k v es) ≡ lesser (p k v) k (first_such p es)
    put_least k v [] h f = elim (p k v) as (λ b. cond b (Some k) None
        ≡ lesser b k None) [ true ↦ refl | false ↦ refl ]
    put_least k v (x ∷ es) h f =
        by (put_least k v es (both_of (below_all id_cmp x.0 es) _ h).1) (id_cmp k x.0) refl (p k v) refl
        (p x.0 x.1) refl
      where
        above : is_lt (id_cmp k x.0) ≡ true → (j : List ℕ) → first_such p (x ∷ es) ≡ Some j
            → is_lt (id_cmp k j) ≡ true
        above lt j e = let r = such_passes (x ∷ es) h j e in over r.0 (eq_by_cmp id_cmp j x.0) refl r.1
          where
            over : (o : X) (t : Bool) → eq_by_cmp id_cmp j x.0 ≡ t
                → cond t (Some x.1) (finite.find id_cmp j es) ≡ Some o
                → is_lt (id_cmp k j) ≡ true
            over o true t f = ap (λ y. is_lt (id_cmp k y)) (tied_same j x.0 t) ∙ lt
            over o false t f = below_below k x.0 j lt (below_found x.0 j o es (both_of _ _ h).0 f)

        by : (finite.find id_cmp k es ≡ None → first_such p (finite.put id_cmp k v es)
            ≡ lesser (p k v) k (first_such p es))
            → (r : Ordering) → id_cmp k x.0 ≡ r → (b : Bool) → p k v ≡ b → (c : Bool) → p x.0 x.1 ≡ c
            → first_such p (by_order r ((k, v) ∷ x ∷ es) ((x.0, v) ∷ es) (x ∷ finite.put id_cmp k v es))
            ≡ lesser b k (cond c (Some x.0) (first_such p es))
        by again Less r true b c g =
            ap (λ t. cond t (Some k) (first_such p (x ∷ es))) b ∙ sym (picked k (x ∷ es) (above (ap is_lt r)))
            ∙ ap (λ t. lesser true k (cond t (Some x.0) (first_such p es))) g
        by again Less r false b c g =
            ap (λ t. cond t (Some k) (first_such p (x ∷ es))) b ∙ ap (λ t. cond t (Some x.0) (first_such p es)) g
        by again Equal r b q c g =
            absurd (no_some x.1 (sym (ap (λ t. cond t (Some x.1) (finite.find id_cmp k es)) (ap is_eq r)) ∙ f))
        by again Greater r true b true g =
            ap (λ t. cond t (Some x.0) (first_such p (finite.put id_cmp k v es))) g
            ∙ sym (ap (λ t. cond t (Some k) (Some x.0)) (ap is_lt r))
        by again Greater r false b true g = ap (λ t. cond t (Some x.0) (first_such p (finite.put id_cmp k v es))) g
        by again Greater r b q false g =
            ap (λ t. cond t (Some x.0) (first_such p (finite.put id_cmp k v es))) g
            ∙ again (ap (λ t. cond t (Some x.1) (finite.find id_cmp k es)) (sym (ap is_eq r)) ∙ f)
            ∙ ap (λ t. lesser t k (first_such p es)) q

    -- the least after a new key
    pub least-insert : (m : finite.FinMap id_cmp X) (k : List ℕ) (v : X) → finite.get m k ≡ None
        → least p (finite.insert m k v) ≡ lesser (p k v) k (least p m)
    least-insert m k v f =
        ap (first_such p) (finite.entries-insert nat_list_cmp_total m k v)
        ∙ put_least k v (finite.entries m) (finite.entries_sorted m) (sym (finite.get-entries m k) ∙ f)

    pub none_after : (k : List ℕ) (es : List (List ℕ × X)) → AllByRecursion (λ y. pointwise nat_eq k y
        ≡ false) (keys_of es) → finite.find id_cmp k es ≡ None
    none_after k [] h = refl
    none_after k (x ∷ es) h =
        ap (λ t. cond t (Some x.1) (finite.find id_cmp k es)) (same_id k x.0 ∙ h.0) ∙ none_after k es h.1

    -- a scan of entries with different keys finds the least of their map
    pub least_of_is : (es : List (List ℕ × X)) → IsDistinct (pointwise nat_eq) (keys_of es) → least_of p es
        ≡ least p (finite.from_entries es)
    unfolding IsDistinct
    least_of_is [] h = by (least p finite.empty) refl
      where
        by : (r : Option (List ℕ)) → least p finite.empty ≡ r → None ≡ r
        by None e = refl
        by (Some k) e =
            let r = least_passes finite.empty k e in absurd (no_some r.0 (sym r.1 ∙ finite.get-empty id_cmp k))
    least_of_is (x ∷ es) h =
        ap (lesser (p x.0 x.1) x.0) (least_of_is es h.1)
        ∙ sym (least-insert (finite.from_entries es) x.0 x.1
        (finite.get-from_entries nat_list_cmp_total es x.0 ∙ none_after x.0 es h.0))

    -- one step of a scan from the end
    pub least_of_step : (xs : List (List ℕ × X)) (j i : ℕ) (k : List ℕ) (v : X) → suc j ≡ i → slice_get xs j
        ≡ Some (k, v)
        → least_of p (drop j xs) ≡ lesser (p k v) k (least_of p (drop i xs))
    least_of_step xs j i k v e at =
        ap (least_of p) (drop-cons xs j (k, v) (slice_get_within xs j (k, v) at)
        ∙ ap (λ x. x ∷ drop (suc j) xs) (get_or_from_slice_get xs j (k, v) (k, v) at))
        ∙ ap (λ n. lesser (p k v) k (least_of p (drop n xs))) e

    -- its end
    pub least_of_all : (xs : List (List ℕ × X)) (i : ℕ) → i ≡ 0 → IsDistinct (pointwise nat_eq) (keys_of xs)
        → least_of p (drop i xs) ≡ least p (finite.from_entries xs)
    least_of_all xs i e h = ap (λ n. least_of p (drop n xs)) e ∙ least_of_is xs h

  -- what passes in one map passes in the other, at the same key and with the same value
  abbrev pub Passes : (List ℕ → X → Bool) → finite.FinMap id_cmp X → (List ℕ → X → Bool)
      → finite.FinMap id_cmp X → Type 0
  Passes p m q n =
      (k : List ℕ) (v : X) → finite.get m k ≡ Some v → p k v ≡ true → (finite.get n k ≡ Some v) × (q k v ≡ true)

  -- and where it does so both ways, the least is the same
  pub least_same : (p q : List ℕ → X → Bool) (m n : finite.FinMap id_cmp X) → Passes p m q n → Passes q n p m
      → least p m ≡ least q n
  least_same p q m n there back = by (least p m) refl (least q n) refl
    where
      by : (a : Option (List ℕ)) → least p m ≡ a → (b : Option (List ℕ)) → least q n ≡ b → a ≡ b
      by None a None b = refl
      by (Some k) a None b =
          let r = least_passes p m k a in
          let s = there k r.0 r.1 r.2 in
          absurd (true≢false (sym s.1 ∙ least_none q n b k r.0 s.0))
      by None a (Some j) b =
          let r = least_passes q n j b in
          let s = back j r.0 r.1 r.2 in
          absurd (true≢false (sym s.1 ∙ least_none p m a j r.0 s.0))
      by (Some k) a (Some j) b =
          let r = least_passes p m k a in
          let s = there k r.0 r.1 r.2 in
          let r' = least_passes q n j b in
          let s' = back j r'.0 r'.1 r'.2 in
          ap Some (neither_below k j (least_first q n j b k r.0 s.0 s.1) (least_first p m k a j r'.0 s'.0 s'.1))

one_more : (n : ℕ) → n + 1 ≡ suc n
one_more n = omega arith

-- entries with different keys make a map of as many
pub len_is : {X : Type 0} (es : List (List ℕ × X)) → IsDistinct (pointwise nat_eq) (keys_of es)
    → finite.len (finite.from_entries {R = id_cmp} es) ≡ length es
unfolding IsDistinct
len_is {X} [] h = finite.len-empty id_cmp X
len_is (x ∷ es) h =
    finite.len-insert nat_list_cmp_total (finite.from_entries es) x.0 x.1
    ∙ ap (λ o. cond (is_some o) (finite.len (finite.from_entries {R = id_cmp} es)) (finite.len
    (finite.from_entries {R = id_cmp} es) + 1))
    (finite.get-from_entries nat_list_cmp_total es x.0 ∙ none_after (λ _ _. true) x.0 es h.0)
    ∙ ap (λ n. n + 1) (len_is es h.1) ∙ one_more (length es)
