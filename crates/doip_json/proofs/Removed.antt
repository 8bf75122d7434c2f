-- An entry that is removed with its key.
use Rattle.std.proofs.Common.{◌≡◌, ◌≢◌, ℕ, zero, suc, ◌<◌, inl, inr, List, [], ◌∷◌, length, Bool, false, true, None, nat_eq, refl, sym, ap, ◌∙◌, subst, arith}
use Rattle.std.proofs.Common.{cond, take, drop, ◌++◌}
use Rattle.std.proofs.lemmas.Bool.{cases_lt}
use Rattle.std.specs.List.{remove, AllByRecursion}
use Rattle.std.specs.List.Sorted.{IsStrictlySortedBy}
use Rattle.std.specs.Map.{keys_of, remove_entry}
use Rattle.std.specs.Ordering.{is_eq}
use Rattle.std.specs.declared.cmp.Ordering.TheVariants.{Less}
use Rattle.std.specs.Cmp.Lexicographic.{pointwise, texts_ties, same_text}
use Rattle.doip_json.specs.Value.{table, entries_from}
use Rattle.doip_json.specs.Sound.{IsSound, IsAscending, EntriesAreSound}
use Rattle.doip_json.specs.Places.{key_of, IsGapFor}
use Rattle.doip_json.specs.Look.{entry_of}
use Rattle.doip_json.proofs.Ascending.{Pairs, compared, earlier_below}
use Rattle.std.proofs.lemmas.List.{map-append, take-map, drop-map}
use Rattle.doip_json.specs.Meaning.{value_of, pairs_of}
use Rattle.doip_json.proofs.Entries.{Kept, ascends}
use Rattle.doip_json.proofs.Found.{lower_differs, greater_differs, same_key, differs}
use Rattle.doip_json.proofs.Soundness.{keys_in-entries_from}

-- the entries without the key
abbrev pub without : List ℕ → Pairs → Pairs
without k es = remove_entry (pointwise nat_eq k) es

-- of keys that ascend, the one that is found is the first
pub removed_at : (es : Pairs) (k : List ℕ) (i : ℕ) → IsAscending (keys_of es) → i < length es → key_of es i ≡ k → without k es ≡ remove es i
unfolding IsStrictlySortedBy
removed_at [] k i sorted within has = absurd (omega arith)
removed_at (e ∷ es) k zero sorted within has = rw (same_key k e.0 has) refl
removed_at (e ∷ es) k (suc i) sorted within has =
    let less : compared e.0 (key_of es i) ≡ Less = earlier_below (e ∷ es) 0 (suc i) sorted (omega arith) within in
    rw (lower_differs k e.0 (sym (ap (compared e.0) has) ∙ less)) (ap (λ (r : Pairs). e ∷ r) (removed_at es k i sorted.1 (omega arith) has))

none_passes : (es : Pairs) (k : List ℕ) → ((j : ℕ) → j < length es → pointwise nat_eq k (key_of es j) ≡ false) → without k es ≡ es
none_passes [] k differ = refl
none_passes (e ∷ es) k differ = rw (differ 0 (omega arith)) (ap (λ (r : Pairs). e ∷ r) (none_passes es k (λ j h. differ (suc j) (omega arith))))

-- without the key nothing is removed
pub kept_at : (es : Pairs) (k : List ℕ) (i : ℕ) → IsGapFor k es i → without k es ≡ es
kept_at es k i gap = none_passes es k (λ j h. elim (cases_lt j i) [
  | inl before ↦ lower_differs k (key_of es j) (gap.lower j before)
  | inr after ↦ greater_differs k (key_of es j) (gap.greater j after h)
])

all_without : (P : List ℕ → Type 0) (k : List ℕ) (es : Pairs) → AllByRecursion P (keys_of es) → AllByRecursion P (keys_of (without k es))
all_without P k [] h = tt
all_without P k (e ∷ es) h = elim (pointwise nat_eq k e.0) as (λ b. AllByRecursion P (keys_of (cond b es (e ∷ without k es)))) [
  | true ↦ h.1
  | false ↦ (h.0, all_without P k es h.1)
]

ascending_without : (k : List ℕ) (es : Pairs) → IsAscending (keys_of es) → IsAscending (keys_of (without k es))
unfolding IsStrictlySortedBy
ascending_without k [] h = h
ascending_without k (e ∷ es) h = elim (pointwise nat_eq k e.0) as (λ b. IsAscending (keys_of (cond b es (e ∷ without k es)))) [
  | true ↦ h.1
  | false ↦ (all_without (λ y. compared e.0 y ≡ Less) k es h.0, ascending_without k es h.1)
]

entries_without : (k : List ℕ) (es : Pairs) → EntriesAreSound (entries_from es) → EntriesAreSound (entries_from (without k es))
entries_without k [] h = h
entries_without k (e ∷ es) h = elim (pointwise nat_eq k e.0) as (λ b. EntriesAreSound (entries_from (cond b es (e ∷ without k es)))) [
  | true ↦ h.2
  | false ↦ (h.0, h.1, entries_without k es h.2)
]

pub sound_without : (k : List ℕ) (es : Pairs) → IsSound (table (entries_from es)) → IsSound (table (entries_from (without k es)))
sound_without k es sound =
    (subst IsAscending (sym (keys_in-entries_from (without k es))) (ascending_without k es (ascends es sound)), entries_without k es sound.1)

none_above : (es : Pairs) (k : List ℕ) → AllByRecursion (λ y. compared k y ≡ Less) (keys_of es) → entry_of k (entries_from es) ≡ None
none_above [] k h = refl
none_above (e ∷ es) k h =
    let other : pointwise nat_eq k e.0 ≡ false = texts_ties k e.0 ∙ ap is_eq h.0 in
    rw other (none_above es k h.1)

-- the key is gone
pub gone : (es : Pairs) (k : List ℕ) → IsAscending (keys_of es) → entry_of k (entries_from (without k es)) ≡ None
unfolding IsStrictlySortedBy
gone [] k h = refl
gone (e ∷ es) k h = at (gone es k h.1) (pointwise nat_eq k e.0) refl
  where
    at : entry_of k (entries_from (without k es)) ≡ None → (b : Bool) → pointwise nat_eq k e.0 ≡ b → entry_of k (entries_from (without k (e ∷ es))) ≡ None
    at later true is =
        let same : k ≡ e.0 = same_text k e.0 (sym is) in
        rw is (none_above es k (subst (λ (l : List ℕ). AllByRecursion (λ y. compared l y ≡ Less) (keys_of es)) (sym same) h.0))
    at later false is = rw is (rw is later)

-- other keys keep their values
pub others_kept : (es : Pairs) (k other : List ℕ) → other ≢ k → entry_of other (entries_from (without k es)) ≡ entry_of other (entries_from es)
others_kept [] k other h = refl
others_kept (e ∷ es) k other h = at (others_kept es k other h) (pointwise nat_eq k e.0) refl
  where
    at : entry_of other (entries_from (without k es)) ≡ entry_of other (entries_from es) → (b : Bool) → pointwise nat_eq k e.0 ≡ b
        → entry_of other (entries_from (without k (e ∷ es))) ≡ entry_of other (entries_from (e ∷ es))
    at later true is =
        let same : k ≡ e.0 = same_text k e.0 (sym is) in
        rw is (rw (differs other e.0 (λ (is_it : other ≡ e.0). h (is_it ∙ sym same))) refl)
    at later false is = rw is (rw later refl)

-- the entries that are kept without one
pub pairs_removed : (es : Kept) (i : ℕ) → pairs_of (remove es i) ≡ remove (pairs_of es) i
pairs_removed es i =
    map-append (λ e. (e.0, value_of e.1)) (take i es) (drop (suc i) es)
    ∙ (λ j. sym (take-map (λ e. (e.0, value_of e.1)) i es) j ++ sym (drop-map (λ e. (e.0, value_of e.1)) (suc i) es) j)
