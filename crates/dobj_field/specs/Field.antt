-- The grammar of a field, which names a part of an object. This project's own, after the JSON pointers of RFC 6901.
use Rattle.std.specs.Prelude.{◌≡◌, ℕ, List, [], ◌∷◌, ◌++◌, Bool, ◌||◌, ◌==◌, if◌then◌else◌, Option, Some, None}
use Rattle.std.specs.Prelude.{option_map, codes}
use Rattle.dobj_field.specs.declared.field.Field.{Field}
use Rattle.dobj_field.specs.declared.field.Field.TheVariants.{Id, OfType, Pointer}

-- space, tab, CR and LF
abbrev pub is_white : ℕ → Bool
is_white x = (x == 32) || (x == 9) || (x == 13) || (x == 10)

-- white, `(`, `)`, `"` and `:` stand in a pointer only where a `\` takes them
abbrev pub stands_apart : ℕ → Bool
stands_apart x = is_white x || (x == 40) || (x == 41) || (x == 34) || (x == 58)

-- these bytes before the first of the tokens
abbrev pub before_first : List ℕ → List (List ℕ) → List (List ℕ)
before_first bytes [] = []
before_first bytes (token ∷ tokens) = (bytes ++ token) ∷ tokens

-- The tokens of a pointer after its first `/`: a `/` begins the next token, `~0` is `~`, `~1` is `/`, and a `\` takes
-- the byte after it as it is.
unfoldable pub tokens_of : List ℕ → Option (List (List ℕ))
tokens_of [] = Some ([] ∷ [])
tokens_of (x ∷ []) =
    if x == 47 then Some ([] ∷ [] ∷ [])
    else if (x == 92) || (x == 126) || stands_apart x then None else Some ((x ∷ []) ∷ [])
tokens_of (x ∷ y ∷ rest) =
    if x == 47 then option_map (λ tokens. [] ∷ tokens) (tokens_of (y ∷ rest))
    else if x == 92 then option_map (before_first (y ∷ [])) (tokens_of rest)
    else if x == 126 then
    (if y == 48 then option_map (before_first (126 ∷ [])) (tokens_of rest)
    else if y == 49 then option_map (before_first (47 ∷ [])) (tokens_of rest) else None)
    else if stands_apart x then None else option_map (before_first (x ∷ [])) (tokens_of (y ∷ rest))

-- the text names this field: `id`, `type`, or a pointer
abbrev pub IsField : List ℕ → Field → Type 0
IsField text Id = text ≡ codes "id"
IsField text OfType = text ≡ codes "type"
IsField text (Pointer tokens) = (rest : List ℕ) × (text ≡ 47 ∷ rest) × (tokens_of rest ≡ Some tokens)

-- the text names a field
abbrev pub NamesField : List ℕ → Type 0
NamesField text = (field : Field) × IsField text field
