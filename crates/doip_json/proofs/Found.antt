-- A key that is found among entries that ascend, and one that isn't.
use Rattle.std.proofs.Common.{◌≡◌, ℕ, zero, suc, ◌<◌, inl, inr, List, [], ◌∷◌, length, false, true, Some, None, nat_eq, refl, sym, ap, ◌∙◌, arith}
use Rattle.std.proofs.Common.{◌≢◌, Bool, Option, option_and_then}
use Rattle.std.specs.List.{slice_get}
use Rattle.std.specs.List.Sorted.{IsStrictlySortedBy}
use Rattle.std.specs.Map.{keys_of, values_of}
use Rattle.std.specs.Ordering.{is_eq}
use Rattle.std.specs.declared.cmp.Ordering.TheVariants.{Less, Greater}
use Rattle.std.specs.Cmp.Lexicographic.{pointwise, texts_ties, same_text}
use Rattle.std.proofs.lemmas.Bool.{cases_lt}
use Rattle.doip_json.specs.Value.{Value, entries_from}
use Rattle.doip_json.specs.Sound.{IsAscending}
use Rattle.doip_json.specs.Places.{key_of, IsGapFor}
use Rattle.doip_json.specs.Look.{entry_of}
use Rattle.doip_json.proofs.Ascending.{Pairs, compared, compared_self, above, below, earlier_below}

pub lower_differs : (k l : List ℕ) → compared l k ≡ Less → pointwise nat_eq k l ≡ false
lower_differs k l e = texts_ties k l ∙ ap is_eq (above k l e)

pub greater_differs : (k l : List ℕ) → compared l k ≡ Greater → pointwise nat_eq k l ≡ false
greater_differs k l e = texts_ties k l ∙ ap is_eq (below l k e)

pub same_key : (k l : List ℕ) → l ≡ k → pointwise nat_eq k l ≡ true
same_key k l e = texts_ties k l ∙ ap is_eq (ap (compared k) e ∙ compared_self k)

pub found : (es : Pairs) (k : List ℕ) (i : ℕ) (v : Value) → IsAscending (keys_of es) → i < length es → key_of es i ≡ k → slice_get (values_of es) i ≡ Some v → entry_of k (entries_from es) ≡ Some v
unfolding IsStrictlySortedBy
found [] k i v sorted within has is = absurd (omega arith)
found (e ∷ es) k zero v sorted within has is = rw (same_key k e.0 has) is
found (e ∷ es) k (suc i) v sorted within has is =
    let less : compared e.0 (key_of es i) ≡ Less = earlier_below (e ∷ es) 0 (suc i) sorted (omega arith) within in
    rw (lower_differs k e.0 (sym (ap (compared e.0) has) ∙ less)) (found es k i v sorted.1 (omega arith) has is)

none_there : (es : Pairs) (k : List ℕ) → ((j : ℕ) → j < length es → pointwise nat_eq k (key_of es j) ≡ false) → entry_of k (entries_from es) ≡ None
none_there [] k differ = refl
none_there (e ∷ es) k differ = rw (differ 0 (omega arith)) (none_there es k (λ j h. differ (suc j) (omega arith)))

pub absent : (es : Pairs) (k : List ℕ) (i : ℕ) → IsGapFor k es i → entry_of k (entries_from es) ≡ None
absent es k i gap = none_there es k (λ j h. elim (cases_lt j i) [
  | inl before ↦ lower_differs k (key_of es j) (gap.lower j before)
  | inr after ↦ greater_differs k (key_of es j) (gap.greater j after h)
])

pub differs : (k l : List ℕ) → k ≢ l → pointwise nat_eq k l ≡ false
differs k l other = cases (pointwise nat_eq k l) refl
  where
    cases : (b : Bool) → b ≡ pointwise nat_eq k l → pointwise nat_eq k l ≡ false
    cases true e = absurd (other (same_text k l e))
    cases false e = sym e

-- no entry has the name
pub none_named : (es : Pairs) (o : Option (List ℕ)) → ((j : ℕ) → j < length es → o ≢ Some (key_of es j)) → option_and_then (λ k. entry_of k (entries_from es)) o ≡ None
none_named es None other = refl
none_named es (Some k) other = none_there es k (λ j h. differs k (key_of es j) (λ e. other j h (ap Some e)))

pub key_from_keys : (es : Pairs) (i : ℕ) (k : List ℕ) → slice_get (keys_of es) i ≡ Some k → key_of es i ≡ k
key_from_keys [] i k e = absurd (cc)
key_from_keys (x ∷ es) zero k e = cc
key_from_keys (x ∷ es) (suc i) k e = key_from_keys es i k e
