-- A replay of the puts of a map's objects gives the map.
use Rattle.std.proofs.Common.{◌≡◌, refl, ap, sym, ◌∙◌, ℕ, List, [], ◌∷◌, map, fold, Option, None, Some}
use Rattle.std.proofs.Common.{Bool, true, false, T, cond, true≢false}
use Rattle.std.specs.Cmp.Lexicographic.{nat_list_cmp_total}
use Rattle.std.specs.FinMap as finite
use Rattle.std.specs.FinMap.Entries.{below_all}
use Rattle.std.specs.Option.{option_or}
use Rattle.std.specs.Ordering.{eq_by_cmp, is_lt, is_eq}
use Rattle.dobj_model.specs.declared.object.ObjectValue.{ObjectValue}
use Rattle.repo_state.specs.Least.{id_cmp}
use Rattle.repo_state.specs.Compacted.{object_at, compacted}
use Rattle.repo_state.specs.Contents.{Contents, Objects, contents, apply, replay}
use Rattle.repo_state.specs.Sound.{AreNamed}
use Rattle.repo_state.proofs.LeastLemmas.{both_of, level, below_found, not_below_itself, no_some}
use Rattle.repo_state.proofs.MapLemmas.{tied_same, same_objects}

-- objects that are put one after another
abbrev put_all : Objects → List ObjectValue → Objects
put_all m [] = m
put_all m (o ∷ os) = put_all (finite.insert m o.id o) os

-- a replay of puts makes them
puts : (number counter : ℕ) (m : Objects) (os : List ObjectValue)
    → fold (λ before s. apply s before) (contents m counter number) (map (object_at number) os)
    ≡ contents (put_all m os) counter number
puts number counter m [] = refl
puts number counter m (o ∷ os) = puts number counter (finite.insert m o.id o) os

-- no key of a list is one that is below all of them
not_there : (x : List ℕ) (es : List (List ℕ × ObjectValue)) → T (below_all id_cmp x es) → (q : List ℕ)
    → eq_by_cmp id_cmp q x ≡ true → finite.find id_cmp q es ≡ None
not_there x es low q tied = by (finite.find id_cmp q es) refl
  where
    by : (r : Option ObjectValue) → finite.find id_cmp q es ≡ r → r ≡ None
    by None e = refl
    by (Some o) e =
        absurd (true≢false (sym (below_found x q o es low e) ∙ ap (λ y. is_lt (id_cmp x y)) (tied_same q x tied)
        ∙ not_below_itself x))

-- what is found after entries were put over a map
restored : (es : List (List ℕ × ObjectValue)) → T (finite.is_sorted id_cmp es)
    → ((id : List ℕ) (o : ObjectValue) → finite.find id_cmp id es ≡ Some o → o.id ≡ id) → (m : Objects) (q : List ℕ)
    → finite.get (put_all m (map (λ e. e.1) es)) q ≡ option_or (finite.find id_cmp q es) (finite.get m q)
restored [] sorted named m q = refl
restored (e ∷ es) sorted named m q =
    restored es rest later (finite.insert m e.1.id e.1) q
    ∙ ap (option_or (finite.find id_cmp q es)) (finite.get-insert nat_list_cmp_total m e.1.id e.1 q
    ∙ ap (λ k. cond (eq_by_cmp id_cmp q k) (Some e.1) (finite.get m q)) own)
    ∙ by (eq_by_cmp id_cmp q e.0) refl
  where
    low : T (below_all id_cmp e.0 es)
    low = (both_of _ _ sorted).0

    rest : T (finite.is_sorted id_cmp es)
    rest = (both_of (below_all id_cmp e.0 es) _ sorted).1

    own : e.1.id ≡ e.0
    own = named e.0 e.1 (ap (λ r. cond r (Some e.1) (finite.find id_cmp e.0 es)) (tied e.0))
      where
        tied : (k : List ℕ) → eq_by_cmp id_cmp k k ≡ true
        tied k = ap is_eq (level k)

    later : (id : List ℕ) (o : ObjectValue) → finite.find id_cmp id es ≡ Some o → o.id ≡ id
    later id o found = named id o (apart (eq_by_cmp id_cmp id e.0) refl)
      where
        apart : (t : Bool) → eq_by_cmp id_cmp id e.0 ≡ t → cond t (Some e.1) (finite.find id_cmp id es) ≡ Some o
        apart false t = found
        apart true t = absurd (no_some o (sym found ∙ not_there e.0 es low id t))

    by : (t : Bool) → eq_by_cmp id_cmp q e.0 ≡ t
        → option_or (finite.find id_cmp q es) (cond t (Some e.1) (finite.get m q))
        ≡ option_or (cond t (Some e.1) (finite.find id_cmp q es)) (finite.get m q)
    by true t = ap (λ (r : Option ObjectValue). option_or r (Some e.1)) (not_there e.0 es low q t)
    by false t = refl

or_none : {A : Type 0} (r : Option A) → option_or r None ≡ r
or_none None = refl
or_none (Some a) = refl

-- a map's objects give the map
all_put : (m : Objects) → AreNamed m → put_all finite.empty (finite.values m) ≡ m
all_put m named = same_objects _ _ (λ q.
    restored (finite.entries m) (finite.entries_sorted m) (λ id o f. named id o (finite.get-entries m id ∙ f))
    finite.empty q
    ∙ ap (option_or (finite.find id_cmp q (finite.entries m))) (finite.get-empty id_cmp q) ∙ or_none _
    ∙ sym (finite.get-entries m q))

-- what a compaction keeps
pub restores : (c : Contents) → AreNamed c.objects → replay (compacted c) ≡ c
restores c named =
    puts c.number c.counter finite.empty (finite.values c.objects)
    ∙ ap (λ m. contents m c.counter c.number) (all_put c.objects named)
