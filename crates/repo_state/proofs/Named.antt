-- Objects stand under their own identifiers, whatever is put or taken away.
use Rattle.std.proofs.Common.{◌≡◌, ℕ, List, [], Bool, true, false, cond, is_some, unwrap_or, Some, None, option_map, String, string_bytes, refl, ap, sym, ◌∙◌, subst, true≢false}
use Rattle.std.proofs.lemmas.Option.{slice_get-map}
use Rattle.std.specs.declared.alloc.Global.{Global}
use Rattle.std.specs.Map.{lookup}
use Rattle.std.specs.List.{slice_get}
use Rattle.std.specs.String.{string_eq}
use Rattle.std.specs.Cmp.Lexicographic.{nat_list_cmp_total}
use Rattle.std.specs.Ordering.{eq_by_cmp}
use Rattle.std.specs.FinMap as finite
use Rattle.dobj_model.specs.declared.object.ObjectValue.{ObjectValue}
use Rattle.repo_state.specs.Least.{id_cmp}
use Rattle.repo_state.specs.Contents.{Objects}
use Rattle.repo_state.specs.Rows.{Row, rows_in, objects_in}
use Rattle.repo_state.specs.Sound.{AreNamed}
use Rattle.repo_state.proofs.MapLemmas.{Entries, tied_same, look_is}

pub some_same : {A : Type 0} (a b : A) → Some a ≡ Some b → a ≡ b
some_same a b e = ap (λ o. unwrap_or o a) e

-- an empty map has nothing
pub nothing_there : {X : Type 0} (id : List ℕ) (o : X) → finite.get (finite.empty {X = X} {R = id_cmp}) id ≡ Some o → ⊥
nothing_there id o is = true≢false (ap is_some (sym is ∙ finite.get-empty id_cmp id))

pub named_nothing : (rows : List Row) → rows ≡ [] → AreNamed (objects_in rows)
named_nothing rows e = subst (λ r. AreNamed (objects_in r)) (sym e) (λ id o is. absurd (nothing_there id o is))

pub named_put : (m : Objects) (k : List ℕ) (v : ObjectValue) → v.id ≡ k → AreNamed m → AreNamed (finite.insert m k v)
named_put m k v same named id o is = by (eq_by_cmp id_cmp id k) refl (sym (finite.get-insert nat_list_cmp_total m k v id) ∙ is)
  where
    by : (t : Bool) → eq_by_cmp id_cmp id k ≡ t → cond t (Some v) (finite.get m id) ≡ Some o → o.id ≡ id
    by true t f = ap (λ x. x.id) (sym (some_same v o f)) ∙ same ∙ sym (tied_same id k t)
    by false t f = named id o f

pub named_removed : (m : Objects) (k : List ℕ) → AreNamed m → AreNamed (finite.remove m k)
named_removed m k named id o is = by (eq_by_cmp id_cmp id k) (sym (finite.get-remove nat_list_cmp_total m k id) ∙ is)
  where
    by : (t : Bool) → cond t None (finite.get m id) ≡ Some o → o.id ≡ id
    by true f = absurd (true≢false (ap is_some (sym f)))
    by false f = named id o f

-- equal maps
pub named_as : (m n : Objects) → m ≡ n → AreNamed n → AreNamed m
named_as m n e h = subst AreNamed (sym e) h

-- the row at a place is the object's under its own identifier
pub row_at : (es : Entries) (i : ℕ) (k : String Global) (v : ObjectValue) → Some (k, v) ≡ slice_get es i → lookup (string_eq k) es ≡ Some v
    → AreNamed (objects_in (rows_in es)) → slice_get (rows_in es) i ≡ Some (v.id, v)
row_at es i k v at found named =
    slice_get-map (λ e. (string_bytes e.0, e.1)) es i ∙ ap (option_map (λ e. (string_bytes e.0, e.1))) (sym at)
    ∙ ap (λ id. Some (id, v)) (sym (named (string_bytes k) v (sym (look_is es (string_bytes k)) ∙ found)))
