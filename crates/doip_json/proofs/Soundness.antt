-- A list and a table stay sound as they grow.
use Rattle.std.proofs.Common.{◌≡◌, List, [], ◌∷◌, ◌++◌, refl, ap}
use Rattle.std.specs.Map.{keys_of}
use Rattle.std.specs.Prelude.{ℕ, IsUtf8}
use Rattle.std.specs.Ordering.{nat_cmp, match_ordering}
use Rattle.std.specs.declared.cmp.Ordering.TheVariants.{Less, Equal, Greater}
use Rattle.std.specs.Cmp.Lexicographic.{slice_cmp}
use Rattle.std.specs.BTreeMap.{insert_entry}
use Rattle.doip_json.specs.Value.{Value, values_from, entries_from}
use Rattle.doip_json.specs.Sound.{IsSound, AreSound, EntriesAreSound, keys_in}

pub AreSound-append : (vs : List Value) (v : Value) → AreSound (values_from vs) → IsSound v → AreSound (values_from (vs ++ v ∷ []))
AreSound-append [] v all one = (one, tt)
AreSound-append (w ∷ vs) v all one = (all.0, AreSound-append vs v all.1 one)

pub EntriesAreSound-append : (es : List (List ℕ × Value)) (k : List ℕ) (v : Value) → EntriesAreSound (entries_from es) → IsUtf8 k → IsSound v → EntriesAreSound (entries_from (es ++ (k, v) ∷ []))
EntriesAreSound-append [] k v all key one = (key, one, tt)
EntriesAreSound-append (e ∷ es) k v all key one = (all.0, all.1, EntriesAreSound-append es k v all.2 key one)

pub keys_in-entries_from : (es : List (List ℕ × Value)) → keys_in (entries_from es) ≡ keys_of es
keys_in-entries_from [] = refl
keys_in-entries_from (e ∷ es) = ap (λ ks. e.0 ∷ ks) (keys_in-entries_from es)

pub EntriesAreSound-insert : (es : List (List ℕ × Value)) (k : List ℕ) (v : Value) → EntriesAreSound (entries_from es) → IsUtf8 k → IsSound v
    → EntriesAreSound (entries_from (insert_entry (slice_cmp nat_cmp) es k v))
EntriesAreSound-insert [] k v all key one = (key, one, tt)
EntriesAreSound-insert (e ∷ es) k v all key one =
    elim (slice_cmp nat_cmp k e.0) as (λ o. EntriesAreSound (entries_from (match_ordering o ((k, v) ∷ e ∷ es) ((e.0, v) ∷ es) (e ∷ insert_entry (slice_cmp nat_cmp) es k v)))) [
      | Less ↦ (key, one, all)
      | Equal ↦ (all.0, one, all.2)
      | Greater ↦ (all.0, all.1, EntriesAreSound-insert es k v all.2 key one)
    ]
