-- References, one entry or item after another.
use Rattle.std.proofs.Common.{◌≡◌, ℕ, ◌+◌, List, [], ◌∷◌, ◌++◌, drop, decimal, Option, Some, None, option_map, unwrap_or, sym, ap, ◌∙◌, append_assoc, append-nil}
use Rattle.doip_json.specs.Value.{Value, values_from, entries_from}
use Rattle.schema_core.specs.declared.collecting.Reference.{Reference}
use Rattle.schema_core.specs.Rules.{Rules, property_of}
use Rattle.schema_core.specs.References.{references_at, entry_references, item_references}

-- what was found so far, what is found next, and the rest
next_found : (found more rest all found' : List Reference) → found ++ (more ++ rest) ≡ all → found' ≡ found ++ more → found' ++ rest ≡ all
next_found found more rest all found' so grown = ap (λ x. x ++ rest) grown ∙ (append_assoc found more rest ∙ so)

module _ (r : Rules) (es : List (List ℕ × Value)) (i : ℕ) (k : List ℕ) (v : Value) (names names' : List (List ℕ)) (found found' all : List Reference)
    (next : drop i es ≡ (k, v) ∷ drop (i + 1) es) (same : names' ≡ names)
    (so : found ++ entry_references names r (entries_from (drop i es)) ≡ all) where
  -- those of the value of the entry, by the schema of its key
  under : Option Rules → List Reference
  under o = unwrap_or (option_map (λ inner. references_at (names ++ k ∷ []) inner v) o) []

  entry_next : found ++ (under (property_of k r) ++ entry_references names r (entries_from (drop (i + 1) es))) ≡ all
  unfolding under
  entry_next = ap (λ xs. found ++ entry_references names r (entries_from xs)) (sym next) ∙ so

  entry_done : (more : List Reference) → under (property_of k r) ≡ more → found' ≡ found ++ more
      → found' ++ entry_references names' r (entries_from (drop (i + 1) es)) ≡ all
  entry_done more is grown =
      ap (λ ns. found' ++ entry_references ns r (entries_from (drop (i + 1) es))) same
      ∙ next_found found more (entry_references names r (entries_from (drop (i + 1) es))) all found'
      (ap (λ x. found ++ (x ++ entry_references names r (entries_from (drop (i + 1) es)))) (sym is) ∙ entry_next) grown

  pub entry_added : (inner : Rules) → property_of k r ≡ Some inner → found' ≡ found ++ references_at (names ++ k ∷ []) inner v
      → found' ++ entry_references names' r (entries_from (drop (i + 1) es)) ≡ all
  unfolding under
  entry_added inner there grown = entry_done (references_at (names ++ k ∷ []) inner v) (ap under there) grown

  pub entry_passed : property_of k r ≡ None → found' ≡ found → found' ++ entry_references names' r (entries_from (drop (i + 1) es)) ≡ all
  unfolding under
  entry_passed none stays = entry_done [] (ap under none) (stays ∙ sym (append-nil found))

pub item_added : (r : Rules) (vs : List Value) (i : ℕ) (v : Value) (names names' : List (List ℕ)) (found found' all : List Reference)
    → drop i vs ≡ v ∷ drop (i + 1) vs → names' ≡ names → found ++ item_references names r i (values_from (drop i vs)) ≡ all
    → found' ≡ found ++ references_at (names ++ decimal i ∷ []) r v
    → found' ++ item_references names' r (i + 1) (values_from (drop (i + 1) vs)) ≡ all
item_added r vs i v names names' found found' all next same so grown =
    ap (λ ns. found' ++ item_references ns r (i + 1) (values_from (drop (i + 1) vs))) same
    ∙ next_found found (references_at (names ++ decimal i ∷ []) r v) (item_references names r (i + 1) (values_from (drop (i + 1) vs))) all found'
    (ap (λ xs. found ++ item_references names r i (values_from xs)) (sym next) ∙ so) grown
