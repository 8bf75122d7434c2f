-- What keeps objects sound.
use Rattle.std.proofs.Common.{◌≡◌, ℕ, List, [], Bool, true, false, not, Option, Some, None, refl, ap, sym, ◌∙◌, subst, arith, true≢false, cond, is_some, unwrap_or}
use Rattle.std.specs.FinMap as finite
use Rattle.std.specs.Cmp.Lexicographic.{nat_list_cmp_total}
use Rattle.std.specs.Ordering.{eq_by_cmp}
use Rattle.dobj_model.specs.declared.object.ObjectValue.{ObjectValue}
use Rattle.journal_core.specs.declared.records.Stamp.{Stamp}
use Rattle.record_core.specs.declared.change.Change.TheVariants as changes
use Rattle.record_core.specs.Storable.{IsCounter, IsCounterIfThere}
use Rattle.repo_state.specs.Least.{id_cmp}
use Rattle.repo_state.specs.Contents.{Objects, Contents, contents, apply}
use Rattle.repo_state.specs.Rows.{Row, objects_in}
use Rattle.repo_state.specs.Sound.{IsConsistent, IsSound, is_sound_in, least_unsound}
use Rattle.repo_state.proofs.LeastLemmas.{least_none, least_passes}
use Rattle.repo_state.proofs.Named.{nothing_there, some_same, named_put, named_removed}

-- a repository that holds nothing keeps all that it must
pub nothing_consistent : (rows : List Row) → rows ≡ [] → IsConsistent (contents (objects_in rows) 1 0)
nothing_consistent rows e = subst (λ r. IsConsistent (contents (objects_in r) 1 0)) (sym e) (record {
  named = λ id o is. absurd (nothing_there id o is);
  sound = λ id o is. absurd (nothing_there id o is);
  first = omega arith;
  last = omega arith;
})

not_false : (b : Bool) → not b ≡ false → b ≡ true
not_false true h = refl
not_false false h = absurd (true≢false h)

-- where no object is the least that isn't sound, all are
pub sound_from_none : (m : Objects) → None ≡ least_unsound m → IsSound m
sound_from_none m e id o is = not_false _ (least_none (λ id o. not (is_sound_in m o)) m (sym e) id o is)

-- where all objects are sound, none is the least that isn't
pub none_from_sound : (m : Objects) → IsSound m → least_unsound m ≡ None
none_from_sound m sound = by (least_unsound m) refl
  where
    by : (r : Option (List ℕ)) → least_unsound m ≡ r → r ≡ None
    by None e = refl
    by (Some id) e =
        let r = least_passes (λ id o. not (is_sound_in m o)) m id e in
        absurd (true≢false (sym r.2 ∙ ap not (sound id r.0 r.1)))

-- a sound object that is put leaves each object sound
sound_put : (m : Objects) (k : List ℕ) (v : ObjectValue) → is_sound_in m v ≡ true → IsSound m → IsSound (finite.insert m k v)
sound_put m k v is sound id o found = by (eq_by_cmp id_cmp id k) (sym (finite.get-insert nat_list_cmp_total m k v id) ∙ found)
  where
    by : (t : Bool) → cond t (Some v) (finite.get m id) ≡ Some o → is_sound_in m o ≡ true
    by true f = ap (is_sound_in m) (sym (some_same v o f)) ∙ is
    by false f = sound id o f

-- so does an object that is taken away
sound_removed : (m : Objects) (k : List ℕ) → IsSound m → IsSound (finite.remove m k)
sound_removed m k sound id o found = by (eq_by_cmp id_cmp id k) (sym (finite.get-remove nat_list_cmp_total m k id) ∙ found)
  where
    by : (t : Bool) → cond t None (finite.get m id) ≡ Some o → is_sound_in m o ≡ true
    by true f = absurd (true≢false (ap is_some (sym f)))
    by false f = sound id o f

-- a counter in range after a put
counter_put : (before : ℕ) (counter : Option ℕ) → IsCounter before → IsCounterIfThere counter → IsCounter (unwrap_or counter before)
counter_put before None is there = is
counter_put before (Some n) is there = there

pub consistent_put : (c : Contents) (stamp : Stamp) (o : ObjectValue) (counter : Option ℕ) → IsConsistent c
    → is_sound_in c.objects o ≡ true → IsCounterIfThere counter
    → IsConsistent (apply (record { stamp = stamp; change = changes.Put o counter }) c)
consistent_put c stamp o counter is sound there =
    let after = counter_put c.counter counter (is.first, is.last) there in
    record {
      named = named_put c.objects o.id o refl is.named;
      sound = sound_put c.objects o.id o sound is.sound;
      first = after.0;
      last = after.1;
    }

pub consistent_removed : (c : Contents) (stamp : Stamp) (id : List ℕ) → IsConsistent c
    → IsConsistent (apply (record { stamp = stamp; change = changes.Remove id }) c)
consistent_removed c stamp id is = record {
  named = named_removed c.objects id is.named;
  sound = sound_removed c.objects id is.sound;
  first = is.first;
  last = is.last;
}

pub consistent_counter : (c : Contents) (stamp : Stamp) (n : ℕ) → IsConsistent c → IsCounter n
    → IsConsistent (apply (record { stamp = stamp; change = changes.Counter n }) c)
consistent_counter c stamp n is there = record { named = is.named; sound = is.sound; first = there.0; last = there.1 }
