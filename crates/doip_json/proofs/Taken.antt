-- A value put at one key leaves the values at the others.
use Rattle.std.proofs.Common.{◌≡◌, ◌≢◌, ℕ, List, [], ◌∷◌, Bool, false, true, nat_eq, refl, sym, ◌∙◌}
use Rattle.std.specs.Ordering.{match_ordering}
use Rattle.std.specs.declared.cmp.Ordering.{Ordering}
use Rattle.std.specs.declared.cmp.Ordering.TheVariants.{Less, Equal, Greater}
use Rattle.std.specs.Cmp.Lexicographic.{pointwise, same_text}
use Rattle.std.specs.BTreeMap.{insert_entry}
use Rattle.doip_json.specs.Value.{Value, entries_from}
use Rattle.doip_json.specs.Look.{entry_of}
use Rattle.doip_json.proofs.Ascending.{Pairs, compared, equal_same}

not_true : (b : Bool) → (b ≡ true → ⊥) → b ≡ false
not_true true h = absurd (h refl)
not_true false h = refl

differs : (k l : List ℕ) → k ≢ l → pointwise nat_eq k l ≡ false
differs k l h = not_true (pointwise nat_eq k l) (λ e. h (same_text k l (sym e)))

put_elsewhere : (e : List ℕ × Value) (es rest : Pairs) (k other : List ℕ) (v : Value) → other ≢ k → entry_of other (entries_from rest) ≡ entry_of other (entries_from es)
    → (o : Ordering) → compared k e.0 ≡ o → entry_of other (entries_from (match_ordering o ((k, v) ∷ e ∷ es) ((e.0, v) ∷ es) (e ∷ rest))) ≡ entry_of other (entries_from (e ∷ es))
put_elsewhere e es rest k other v h later Less is = rw (differs other k h) refl
put_elsewhere e es rest k other v h later Equal is =
    let here : other ≢ e.0 = λ same. h (same ∙ sym (equal_same k e.0 is)) in
    rw (differs other e.0 here) refl
put_elsewhere e es rest k other v h later Greater is = rw later refl

pub put_others : (es : Pairs) (k other : List ℕ) (v : Value) → other ≢ k → entry_of other (entries_from (insert_entry compared es k v)) ≡ entry_of other (entries_from es)
put_others [] k other v h = rw (differs other k h) refl
put_others (e ∷ es) k other v h = put_elsewhere e es (insert_entry compared es k v) k other v h (put_others es k other v h) (compared k e.0) refl
