-- Texts in parts: white bytes, and bytes that no `\` takes. This project's own.
use Rattle.std.specs.Prelude.{◌≡◌, ℕ, ◌+◌, List, [], ◌∷◌, Bool, true, ◌&&◌, ◌==◌, if◌then◌else◌}
use Rattle.dobj_field.specs.Field.{is_white}
use Rattle.query_text.specs.declared.parts.Stop.{Stop}
use Rattle.query_text.specs.declared.parts.Stop.TheVariants.{Comma, White, Colon}

-- the bytes at which a part may end
abbrev pub stops : Stop → ℕ → Bool
stops Comma x = x == 44
stops White x = is_white x
stops Colon x = x == 58

-- how many bytes stand before the first stop that no `\` takes: all, where there is none
unfoldable pub untaken : Stop → List ℕ → ℕ
untaken stop [] = 0
untaken stop (x ∷ []) = if stops stop x then 0 else 1
untaken stop (x ∷ y ∷ rest) =
    if x == 92 then 2 + untaken stop rest else if stops stop x then 0 else 1 + untaken stop (y ∷ rest)

-- all bytes are white
abbrev pub all_white : List ℕ → Bool
all_white [] = true
all_white (x ∷ rest) = is_white x && all_white rest

-- the bytes after the white ones at the head
abbrev pub past_white : List ℕ → List ℕ
past_white [] = []
past_white (x ∷ rest) = if is_white x then past_white rest else x ∷ rest

-- nothing, or a stop and what follows
abbrev pub BeginsWith : Stop → List ℕ → Type 0
BeginsWith stop [] = Unit {0}
BeginsWith stop (x ∷ rest) = stops stop x ≡ true
