-- A test of every reference, one entry or item after another.
use Rattle.std.proofs.Common.{◌≡◌, ℕ, ◌+◌, List, [], ◌∷◌, ◌++◌, drop, decimal, Bool, true, false, ◌&&◌, option_map, unwrap_or, refl, sym, ap, ◌∙◌}
use Rattle.doip_json.specs.Value.{Value, values_from, entries_from}
use Rattle.schema_core.specs.declared.collecting.Reference.{Reference}
use Rattle.schema_core.specs.Rules.{Rules, property_of}
use Rattle.schema_core.specs.References.{references_at, entry_references, item_references, all_pass}

pub and_true : (b : Bool) → b ≡ (b && true)
and_true true = refl
and_true false = refl

module _ (t : List ℕ → List (List ℕ) → Bool) where
  all_append : (xs ys : List Reference) → all_pass t (xs ++ ys) ≡ (all_pass t xs && all_pass t ys)
  all_append [] ys = refl
  all_append (x ∷ xs) ys =
      ap (λ b. t x.id x.types && b) (all_append xs ys) ∙ regroup (t x.id x.types) (all_pass t xs) (all_pass t ys)
    where
      regroup : (a b c : Bool) → (a && (b && c)) ≡ ((a && b) && c)
      regroup true b c = refl
      regroup false b c = refl

  -- an entry, by the schema of its key
  module _ (r : Rules) (es : List (List ℕ × Value)) (i : ℕ) (k : List ℕ) (v : Value)
      (next : drop i es ≡ (k, v) ∷ drop (i + 1) es) (held : Bool)
      (is : (names : List (List ℕ)) → held
      ≡ all_pass t (unwrap_or (option_map (λ inner. references_at names inner v) (property_of k r)) []))
      (names : List (List ℕ)) where
    pub entry_next : all_pass t (entry_references names r (entries_from (drop i es)))
        ≡ (held && all_pass t (entry_references names r (entries_from (drop (i + 1) es))))
    entry_next =
        ap (λ xs. all_pass t (entry_references names r (entries_from xs))) next
        ∙ all_append (unwrap_or (option_map (λ inner. references_at (names ++ k ∷ []) inner v) (property_of k r)) [])
        (entry_references names r (entries_from (drop (i + 1) es)))
        ∙ ap (λ b. b
        && all_pass t (entry_references names r (entries_from (drop (i + 1) es)))) (sym (is (names ++ k ∷ [])))

  -- an item
  module _ (r : Rules) (vs : List Value) (i : ℕ) (v : Value) (next : drop i vs ≡ v ∷ drop (i + 1) vs) (held : Bool)
      (is : (names : List (List ℕ)) → held ≡ all_pass t (references_at names r v)) (names : List (List ℕ)) where
    pub item_next : all_pass t (item_references names r i (values_from (drop i vs)))
        ≡ (held && all_pass t (item_references names r (i + 1) (values_from (drop (i + 1) vs))))
    item_next =
        ap (λ xs. all_pass t (item_references names r i (values_from xs))) next
        ∙ all_append (references_at (names ++ decimal i ∷ []) r v) (item_references names r (i + 1)
        (values_from (drop (i + 1) vs)))
        ∙ ap (λ b. b
        && all_pass t (item_references names r (i + 1) (values_from (drop (i + 1) vs)))) (sym (is
        (names ++ decimal i ∷ [])))
