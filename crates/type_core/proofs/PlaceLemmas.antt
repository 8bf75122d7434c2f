-- Objects after one was put among them.
use Rattle.std.proofs.Common.{◌≡◌, ℕ, List, Bool, true, false, cond, Some, refl, ap, sym, ◌∙◌}
use Rattle.std.specs.Cmp.Lexicographic.{nat_list_cmp_total}
use Rattle.std.specs.Ordering.{eq_by_cmp}
use Rattle.std.specs.FinMap as finite
use Rattle.dobj_model.specs.declared.object.ObjectValue.{ObjectValue}
use Rattle.type_core.specs.Least.{id_cmp}
use Rattle.type_core.specs.Names.{is_text}
use Rattle.type_core.specs.Sound.{Objects}
use Rattle.type_core.proofs.LeastLemmas.{same_id, tied_same, some_same}

module _ (m : Objects) (o : ObjectValue) where
  abbrev pub after : Objects
  after = finite.insert m o.id o

  pub found_after : (q : List ℕ) → finite.get after q ≡ cond (eq_by_cmp id_cmp q o.id) (Some o) (finite.get m q)
  found_after q = finite.get-insert nat_list_cmp_total m o.id o q

  -- what is found afterwards is the object, or was there under another identifier
  pub by_place : {P : Type 0} (q : List ℕ) (v : ObjectValue) → finite.get after q ≡ Some v → (q ≡ o.id → o ≡ v → P)
      → (is_text q o.id ≡ false → finite.get m q ≡ Some v → P) → P
  by_place {P} q v is as_new as_old = by (eq_by_cmp id_cmp q o.id) refl (sym (found_after q) ∙ is)
    where
      by : (t : Bool) → eq_by_cmp id_cmp q o.id ≡ t → cond t (Some o) (finite.get m q) ≡ Some v → P
      by true t f = as_new (tied_same q o.id t) (some_same o v f)
      by false t f = as_old (sym (same_id q o.id) ∙ t) f

  pub still : (q : List ℕ) → is_text q o.id ≡ false → finite.get after q ≡ finite.get m q
  still q other = found_after q ∙ ap (λ t. cond t (Some o) (finite.get m q)) (same_id q o.id ∙ other)

  pub kept : (q : List ℕ) (v : ObjectValue) → finite.get m q ≡ Some v → is_text q o.id ≡ false
      → finite.get after q ≡ Some v
  kept q v is other = still q other ∙ is

  pub put_there : (q : List ℕ) → is_text q o.id ≡ true → finite.get after q ≡ Some o
  put_there q e = found_after q ∙ ap (λ t. cond t (Some o) (finite.get m q)) (same_id q o.id ∙ e)
