-- Words of a list, tried one after another.
use Rattle.std.proofs.Common.{◌≡◌, ℕ, ◌+◌, List, ◌∷◌, Bool, true, false, ◌||◌, drop, Some, None, refl, sym, ap, ◌∙◌}
use Rattle.std.specs.List.{slice_get, list_any, cons_option}
use Rattle.std.proofs.lemmas.List.{drop_more}
use Rattle.std.proofs.lemmas.Option.{slice_get_within, get_or_from_slice_get}
use Rattle.doip_json.specs.declared.value.Json.{Json}
use Rattle.doip_json.specs.declared.value.Json.TheVariants.{Null, Truth, Whole, Text, Items, Table}
use Rattle.doip_json.specs.Meaning.{value_of}
use Rattle.doip_json.specs.Value.{Value, values_from}
use Rattle.acl_core.specs.File.{string_in}
use Rattle.acl_core.specs.Granting.{texts_in}

next_of : {X : Type 0} (xs : List X) (i : ℕ) (x : X) → slice_get xs i ≡ Some x → drop i xs ≡ x ∷ drop (i + 1) xs
next_of xs i x is = drop_more xs i x (slice_get_within xs i x is) ∙ ap (λ y. y ∷ drop (i + 1) xs) (get_or_from_slice_get xs i x x is)

module _ (test : List ℕ → Bool) where
  name_tried : (names : List (List ℕ)) (i : ℕ) (w : List ℕ) (b : Bool) → slice_get names i ≡ Some w → b ≡ test w
      → list_any test (drop i names) ≡ b || list_any test (drop (i + 1) names)
  name_tried names i w b is tried = ap (list_any test) (next_of names i w is) ∙ ap (λ x. x || list_any test (drop (i + 1) names)) (sym tried)

  -- a word that grants
  pub name_grants : (names : List (List ℕ)) (i : ℕ) (w : List ℕ) (b : Bool) → slice_get names i ≡ Some w → b ≡ test w → b ≡ true
      → list_any test names ≡ list_any test (drop i names) → true ≡ list_any test names
  name_grants names i w b is tried granted so = sym (so ∙ (name_tried names i w b is tried ∙ ap (λ x. x || list_any test (drop (i + 1) names)) granted))

  -- a word that doesn't
  pub name_passes : (names : List (List ℕ)) (i : ℕ) (w : List ℕ) (b : Bool) → slice_get names i ≡ Some w → b ≡ test w → b ≡ false
      → list_any test names ≡ list_any test (drop i names) → list_any test names ≡ list_any test (drop (i + 1) names)
  name_passes names i w b is tried refused so = so ∙ (name_tried names i w b is tried ∙ ap (λ x. x || list_any test (drop (i + 1) names)) refused)

  item_tried : (vs : List Value) (i : ℕ) (v : Value) → slice_get vs i ≡ Some v
      → list_any test (texts_in (values_from (drop i vs))) ≡ list_any test (cons_option (string_in v) (texts_in (values_from (drop (i + 1) vs))))
  item_tried vs i v is = ap (λ xs. list_any test (texts_in (values_from xs))) (next_of vs i v is)

  text_tried : (vs : List Value) (i : ℕ) (v : Value) (w : List ℕ) (b : Bool) → slice_get vs i ≡ Some v → string_in v ≡ Some w → b ≡ test w
      → list_any test (texts_in (values_from (drop i vs))) ≡ b || list_any test (texts_in (values_from (drop (i + 1) vs)))
  text_tried vs i v w b is named tried =
      item_tried vs i v is ∙ (ap (λ o. list_any test (cons_option o (texts_in (values_from (drop (i + 1) vs))))) named
      ∙ ap (λ x. x || list_any test (texts_in (values_from (drop (i + 1) vs)))) (sym tried))

  pub text_grants : (vs : List Value) (i : ℕ) (v : Value) (w : List ℕ) (b : Bool) → slice_get vs i ≡ Some v → string_in v ≡ Some w → b ≡ test w → b ≡ true
      → list_any test (texts_in (values_from vs)) ≡ list_any test (texts_in (values_from (drop i vs))) → true ≡ list_any test (texts_in (values_from vs))
  text_grants vs i v w b is named tried granted so =
      sym (so ∙ (text_tried vs i v w b is named tried ∙ ap (λ x. x || list_any test (texts_in (values_from (drop (i + 1) vs)))) granted))

  pub text_passes : (vs : List Value) (i : ℕ) (v : Value) (w : List ℕ) (b : Bool) → slice_get vs i ≡ Some v → string_in v ≡ Some w → b ≡ test w → b ≡ false
      → list_any test (texts_in (values_from vs)) ≡ list_any test (texts_in (values_from (drop i vs)))
      → list_any test (texts_in (values_from vs)) ≡ list_any test (texts_in (values_from (drop (i + 1) vs)))
  text_passes vs i v w b is named tried refused so =
      so ∙ (text_tried vs i v w b is named tried ∙ ap (λ x. x || list_any test (texts_in (values_from (drop (i + 1) vs)))) refused)

  -- an item that is no string
  pub other_passes : (vs : List Value) (i : ℕ) (v : Value) → slice_get vs i ≡ Some v → string_in v ≡ None
      → list_any test (texts_in (values_from vs)) ≡ list_any test (texts_in (values_from (drop i vs)))
      → list_any test (texts_in (values_from vs)) ≡ list_any test (texts_in (values_from (drop (i + 1) vs)))
  other_passes vs i v is none so =
      so ∙ (item_tried vs i v is ∙ ap (λ o. list_any test (cons_option o (texts_in (values_from (drop (i + 1) vs))))) none)

pub no_string : (j : Json) → ((s : List ℕ) → j ≡ Text s → ⊥) → string_in (value_of j) ≡ None
no_string Null other = refl
no_string (Truth b) other = refl
no_string (Whole z) other = refl
no_string (Text s) other = absurd (other s refl)
no_string (Items vs) other = refl
no_string (Table es) other = refl
