-- The text that says by which keys hits are sorted. This project's own.
use Rattle.std.specs.Prelude.{◌≡◌, ℕ, List, [], ◌∷◌, ◌++◌, drop, length, Bool, true, false, ◌&&◌, if◌then◌else◌, Option, Some, None, nat_eq, codes}
use Rattle.std.specs.List.{starts_with}
use Rattle.dobj_field.specs.Field.{IsField}
use Rattle.query_core.specs.declared.order.SortKey.{SortKey}
use Rattle.query_text.specs.declared.parts.Stop.TheVariants.{Comma, White}
use Rattle.query_text.specs.Parts.{untaken, all_white, past_white, BeginsWith}

-- the word, and white bytes after it
abbrev pub is_word : List ℕ → List ℕ → Bool
is_word word bytes = starts_with nat_eq bytes word && all_white (drop (length word) bytes)

-- whether the highest key comes first, by what stands after the field: nothing or `ASC`, or `DESC`
abbrev pub direction_in : List ℕ → Option Bool
direction_in rest =
    if all_white rest then Some false
    else if is_word (codes "ASC") (past_white rest) then Some false
    else if is_word (codes "DESC") (past_white rest) then Some true else None

-- white bytes, a field, and after it a direction that white bytes part from it
abbrev pub IsSortPart : List ℕ → SortKey → Type 0
IsSortPart part key =
    (before name rest : List ℕ) × (part ≡ before ++ (name ++ rest)) × (all_white before ≡ true) × IsField name key.field
    × BeginsWith White rest × (direction_in rest ≡ Some key.descending)

-- parts between commas that no `\` takes
abbrev pub AreSortParts : List ℕ → List SortKey → Type 0
AreSortParts text [] = ⊥
AreSortParts text (key ∷ []) = (untaken Comma text ≡ length text) × IsSortPart text key
AreSortParts text (key ∷ next ∷ keys) =
    (part rest : List ℕ) × (text ≡ part ++ 44 ∷ rest) × (untaken Comma text ≡ length part) × IsSortPart part key
    × AreSortParts rest (next ∷ keys)

-- the text names these keys: an empty text has none
abbrev pub NamesKeys : List ℕ → List SortKey → Type 0
NamesKeys [] keys = keys ≡ []
NamesKeys (x ∷ rest) keys = AreSortParts (x ∷ rest) keys
