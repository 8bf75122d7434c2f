-- What a name is. This project's own: the limit on identifiers, type names and element identifiers.
use Rattle.std.specs.Prelude.{◌≡◌, ◌≤◌, ℕ, List, length, Option, Some, None}

-- the most bytes of an identifier, a type name or an element identifier
abbrev pub most_name : ℕ
most_name = 255

-- 1 to 255 bytes
abbrev pub IsName : List ℕ → Type 0
IsName text = (1 ≤ length text) × (length text ≤ most_name)

-- the name that a text spells: itself, exactly when it is one
abbrev pub IsNameOf : List ℕ → Option (List ℕ) → Type 0
IsNameOf text None = IsName text → ⊥
IsNameOf text (Some name) = IsName text × (name ≡ text)
