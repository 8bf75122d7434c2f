-- The references in a value: this project's own word `cordra`.
use Rattle.std.specs.List.{list_all}
use Rattle.std.specs.Prelude.{Bool, ℕ, ◌+◌, List, [], ◌∷◌, ◌++◌, decimal, Option, Some, None, option_map, unwrap_or}
use Rattle.doip_json.specs.Value.{Value, null, truth, whole, text, list, table, Values, no_values, value, Entries, no_entries, entry}
use Rattle.doip_json.specs.Written.{pointer_of}
use Rattle.schema_core.specs.declared.collecting.Reference.{Reference}
use Rattle.schema_core.specs.Rules.{Rules, words_of, property_of, items_of}

-- a pointer, the identifier of an object, and the names of types
abbrev pub reference : List ℕ → List ℕ → List (List ℕ) → Reference
reference pointer id types = record { pointer = pointer; id = id; types = types }

-- the string itself, if the schema says that it is a reference
abbrev pub own_references : List (List ℕ) → Option (List (List ℕ)) → List ℕ → List Reference
own_references names None s = []
own_references names (Some types) s = reference (pointer_of names) s types ∷ []

-- The references in the value that the names lead to, by the schema that is applied to it: the entries of an object
-- ascending by keys, each by the schema of its key, and the items of an array in order.
abbrev mutual
  pub references_at : List (List ℕ) → Rules → Value → List Reference
  references_at names r null = []
  references_at names r (truth b) = []
  references_at names r (whole z) = []
  references_at names r (text s) = own_references names (words_of r).reference s
  references_at names r (list vs) = unwrap_or (option_map (λ inner. item_references names inner 0 vs) (items_of r)) []
  references_at names r (table es) = entry_references names r es

  -- those in items, from the one of this number on
  pub item_references : List (List ℕ) → Rules → ℕ → Values → List Reference
  item_references names r n no_values = []
  item_references names r n (value v vs) =
      references_at (names ++ decimal n ∷ []) r v ++ item_references names r (n + 1) vs

  -- those in entries
  pub entry_references : List (List ℕ) → Rules → Entries → List Reference
  entry_references names r no_entries = []
  entry_references names r (entry k v es) =
      unwrap_or (option_map (λ inner. references_at (names ++ k ∷ []) inner v) (property_of k r)) []
      ++ entry_references names r es

-- the references in a value
abbrev pub references_in : Rules → Value → List Reference
references_in = references_at []

-- a test of identifier and types holds of every reference
abbrev pub all_pass : (List ℕ → List (List ℕ) → Bool) → List Reference → Bool
all_pass test = list_all (λ r. test r.id r.types)
