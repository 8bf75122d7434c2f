-- A name at its place among ascending ones, and the names that none is.
use Rattle.std.proofs.Common.{◌≡◌, ℕ, ◌+◌, ◌<◌, ◌≤◌, Bor, Bool, true, false, ◌||◌, if◌then◌else◌, List, [], ◌∷◌, ◌++◌, length, take, drop, map, get_or, refl, ap, sym, ◌∙◌, append_assoc, true≢false, arith, zero, suc, Some, is_some, unwrap_or, cond, not, filter}
use Rattle.std.specs.Ordering.{is_lt}
use Rattle.std.specs.List.{insert, slice_get}
use Rattle.std.specs.Map.{keys_of}
use Rattle.std.proofs.lemmas.List.{take_more, drop_more, take-map, drop-map, map-append}
use Rattle.std.specs.Cmp.Lexicographic.{same_text}
use Rattle.repo_state.specs.Least.{id_cmp}
use Rattle.repo_state.specs.Groups.{is_text}
use Rattle.ext_ops.specs.declared.code.ExtCode.{ExtCode}
use Rattle.repo_step.specs.operations.Names.{is_reserved}
use Rattle.repo_step.specs.operations.ListOperations.{with_name, with_names, extended_names}

-- a text that is neither this one nor any of others
pub other_text : (a k : List ℕ) (b : Bool) → (a ≡ k → ⊥) → false ≡ b → false ≡ (is_text a k || b)
other_text a k b differ rest = by (is_text a k) refl
  where
    by : (t : Bool) → is_text a k ≡ t → false ≡ (t || b)
    by true e = absurd (differ (same_text a k (sym e)))
    by false e = rest

-- names that are lent
abbrev pub lent_names : List (Bor (List ℕ)) → List (List ℕ)
lent_names = map (λ n. n.now)

passes : (name x : List ℕ) (d : List (List ℕ)) → false ≡ is_lt (id_cmp name x) → with_name name (x ∷ d) ≡ x ∷ with_name name d
passes name x d e = ap (λ b. if b then name ∷ x ∷ d else x ∷ with_name name d) (sym e)

stops : (name x : List ℕ) (d : List (List ℕ)) → true ≡ is_lt (id_cmp name x) → with_name name (x ∷ d) ≡ name ∷ x ∷ d
stops name x d e = ap (λ b. if b then name ∷ x ∷ d else x ∷ with_name name d) (sym e)

seam : (a : List (List ℕ)) (x : List ℕ) (b : List (List ℕ)) → a ++ (x ∷ b) ≡ (a ++ x ∷ []) ++ b
seam a x b = sym (append_assoc a (x ∷ []) b)

map_take : {X Y : Type 0} (f : X → Y) (i : ℕ) (xs : List X) → map f (take i xs) ≡ take i (map f xs)
map_take f i xs = sym (take-map f i xs)

map_drop : {X Y : Type 0} (f : X → Y) (i : ℕ) (xs : List X) → map f (drop i xs) ≡ drop i (map f xs)
map_drop f i xs = sym (drop-map f i xs)

-- the name at a place, and those after it
name_there : (vs : List (Bor (List ℕ))) (i : ℕ) (v : Bor (List ℕ)) → i < length vs → v ≡ get_or vs i v
    → drop i (lent_names vs) ≡ v.now ∷ drop (i + 1) (lent_names vs)
name_there vs i v within is =
    sym (map_drop (λ n. n.now) i vs) ∙ ap lent_names (drop_more vs i v within)
    ∙ ap (λ w. w.now ∷ lent_names (drop (i + 1) vs)) (sym is)
    ∙ ap (λ d. v.now ∷ d) (map_drop (λ n. n.now) (i + 1) vs)

taken_there : (vs : List (Bor (List ℕ))) (i : ℕ) (v : Bor (List ℕ)) → i < length vs → v ≡ get_or vs i v
    → take (i + 1) (lent_names vs) ≡ take i (lent_names vs) ++ v.now ∷ []
taken_there vs i v within is =
    sym (map_take (λ n. n.now) (i + 1) vs) ∙ ap lent_names (take_more vs i v within)
    ∙ map-append (λ n. n.now) (take i vs) (get_or vs i v ∷ [])
    ∙ ap (λ w. lent_names (take i vs) ++ w.now ∷ []) (sym is)
    ∙ ap (λ t. t ++ v.now ∷ []) (map_take (λ n. n.now) i vs)

module _ (name : List ℕ) (vs : List (Bor (List ℕ))) (i : ℕ) where
  abbrev pub IsPassed : ℕ → Type 0
  IsPassed i = with_name name (lent_names vs) ≡ take i (lent_names vs) ++ with_name name (drop i (lent_names vs))

  -- a name that isn't less than the one at this place stands after it
  pub passed_on : (v : Bor (List ℕ)) → i < length vs → v ≡ get_or vs i v → false ≡ is_lt (id_cmp name v.now)
      → IsPassed i → IsPassed (i + 1)
  passed_on v within is later before =
      before ∙ ap (λ d. take i (lent_names vs) ++ with_name name d) (name_there vs i v within is)
      ∙ ap (λ w. take i (lent_names vs) ++ w) (passes name v.now (drop (i + 1) (lent_names vs)) later)
      ∙ seam (take i (lent_names vs)) v.now (with_name name (drop (i + 1) (lent_names vs)))
      ∙ ap (λ t. t ++ with_name name (drop (i + 1) (lent_names vs))) (sym (taken_there vs i v within is))

  -- one that is less stands before it
  pub less_here : (v : Bor (List ℕ)) → i < length vs → v ≡ get_or vs i v → true ≡ is_lt (id_cmp name v.now)
      → with_name name (drop i (lent_names vs)) ≡ name ∷ drop i (lent_names vs)
  less_here v within is less =
      ap (with_name name) (name_there vs i v within is) ∙ stops name v.now (drop (i + 1) (lent_names vs)) less
      ∙ ap (λ d. name ∷ d) (sym (name_there vs i v within is))

  -- at the end it stands last
  pub last_here : length vs ≤ i → with_name name (drop i (lent_names vs)) ≡ name ∷ drop i (lent_names vs)
  last_here past = ap (with_name name) (none i vs past) ∙ ap (λ d. name ∷ d) (sym (none i vs past))
    where
      none : (i : ℕ) (vs : List (Bor (List ℕ))) → length vs ≤ i → drop i (lent_names vs) ≡ []
      none zero [] p = refl
      none (suc i) [] p = refl
      none zero (v ∷ vs) p = absurd (omega (arith, p))
      none (suc i) (v ∷ vs) p = none i vs (omega (arith, p))

  -- the names with the new one at its place
  pub inserted_here : (v : Bor (List ℕ)) (new : List (Bor (List ℕ))) → new ≡ insert vs i v → v.now ≡ name → IsPassed i
      → with_name name (drop i (lent_names vs)) ≡ name ∷ drop i (lent_names vs)
      → lent_names new ≡ with_name name (lent_names vs)
  inserted_here v new made same before here =
      ap lent_names made ∙ map-append (λ n. n.now) (take i vs) (v ∷ drop i vs)
      ∙ ap (λ x. lent_names (take i vs) ++ (x ∷ lent_names (drop i vs))) same
      ∙ ap (λ t. t ++ (name ∷ lent_names (drop i vs))) (map_take (λ n. n.now) i vs)
      ∙ ap (λ d. take i (lent_names vs) ++ (name ∷ d)) (map_drop (λ n. n.now) i vs)
      ∙ ap (λ w. take i (lent_names vs) ++ w) (sym here) ∙ sym before

some_same : {A : Type 0} (a b : A) → Some a ≡ Some b → a ≡ b
some_same a b e = ap (λ o. unwrap_or o a) e

-- the name at a place of some operations, and those after it
keys_after : (ops : List (List ℕ × ExtCode)) (p : ℕ) (n : List ℕ) → slice_get (keys_of ops) p ≡ Some n
    → keys_of (drop p ops) ≡ n ∷ keys_of (drop (suc p) ops)
keys_after [] zero n e = absurd (true≢false (ap is_some (sym e)))
keys_after [] (suc p) n e = absurd (true≢false (ap is_some (sym e)))
keys_after (o ∷ ops) zero n e = ap (λ x. x ∷ keys_of ops) (some_same o.0 n e)
keys_after (o ∷ ops) (suc p) n e = keys_after ops p n e

keys_there : (ops : List (List ℕ × ExtCode)) (p : ℕ) (n : List ℕ) → slice_get (keys_of ops) p ≡ Some n
    → keys_of (drop p ops) ≡ n ∷ keys_of (drop (p + 1) ops)
keys_there ops p n e =
    let next : suc p ≡ p + 1 = omega arith in
    keys_after ops p n e ∙ ap (λ q. n ∷ keys_of (drop q ops)) next

module _ (ops : List (List ℕ × ExtCode)) (p : ℕ) (n : List ℕ) (is : slice_get (keys_of ops) p ≡ Some n) (names : List (List ℕ)) where
  added_at : (b : Bool) → b ≡ is_reserved n → with_names (extended_names (drop p ops)) names
      ≡ cond b (with_names (extended_names (drop (p + 1) ops)) names) (with_name n (with_names (extended_names (drop (p + 1) ops)) names))
  added_at b e =
      ap (λ ks. with_names (filter (λ name. not (is_reserved name)) ks) names) (keys_there ops p n is)
      ∙ by b (is_reserved n) e
    where
      by : (b r : Bool) → b ≡ r → with_names (if not r then n ∷ extended_names (drop (p + 1) ops) else extended_names (drop (p + 1) ops)) names
          ≡ cond b (with_names (extended_names (drop (p + 1) ops)) names) (with_name n (with_names (extended_names (drop (p + 1) ops)) names))
      by true true e = refl
      by false false e = refl
      by true false e = absurd (true≢false e)
      by false true e = absurd (true≢false (sym e))

  module _ (place : ℕ) (next : place ≡ p + 1) (others : List (Bor (List ℕ)))
      (before : lent_names others ≡ with_names (extended_names (drop place ops)) names) where
    -- a reserved name isn't added
    pub name_skipped : true ≡ is_reserved n → lent_names others ≡ with_names (extended_names (drop p ops)) names
    name_skipped e = before ∙ ap (λ q. with_names (extended_names (drop q ops)) names) next ∙ sym (added_at true e)

    -- any other is
    pub name_added : (new : List (Bor (List ℕ))) → false ≡ is_reserved n → lent_names new ≡ with_name n (lent_names others)
        → lent_names new ≡ with_names (extended_names (drop p ops)) names
    name_added new e made =
        made ∙ ap (with_name n) (before ∙ ap (λ q. with_names (extended_names (drop q ops)) names) next) ∙ sym (added_at false e)
