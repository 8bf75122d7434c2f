-- Whether an item of a list passes a test, from the items that are left.
use Rattle.std.proofs.Common.{◌≡◌, ℕ, ◌+◌, ◌≤◌, List, ◌∷◌, length, drop, Bool, true, false, ◌||◌, Some, ap, ◌∙◌}
use Rattle.std.specs.List.{list_any, slice_get}
use Rattle.std.proofs.lemmas.List.{drop_more, drop_all}
use Rattle.std.proofs.lemmas.Option.{slice_get_within, get_or_from_slice_get}

module _ {X : Type 0} (passes : X → Bool) (xs : List X) (i : ℕ) where
  next_any : (x : X) → slice_get xs i ≡ Some x → list_any passes (drop i xs) ≡ (passes x || list_any passes (drop (i + 1) xs))
  next_any x is =
      ap (list_any passes) (drop_more xs i x (slice_get_within xs i x is) ∙ ap (λ y. y ∷ drop (i + 1) xs) (get_or_from_slice_get xs i x x is))

  -- the next item passes
  pub any_hit : (x : X) → slice_get xs i ≡ Some x → passes x ≡ true → list_any passes (drop i xs) ≡ true
  any_hit x is hit = next_any x is ∙ ap (λ b. b || list_any passes (drop (i + 1) xs)) hit

  -- the next item doesn't
  pub any_miss : (x : X) → slice_get xs i ≡ Some x → passes x ≡ false → list_any passes (drop i xs) ≡ list_any passes (drop (i + 1) xs)
  any_miss x is miss = next_any x is ∙ ap (λ b. b || list_any passes (drop (i + 1) xs)) miss

  -- no item is left
  pub any_end : length xs ≤ i → list_any passes (drop i xs) ≡ false
  any_end end = ap (list_any passes) (drop_all i xs end)
