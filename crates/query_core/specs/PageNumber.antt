-- The numbers of a page, as a client gives them. This project's own.
use Rattle.std.specs.Prelude.{◌≡◌, ◌≤◌, ◌⊎◌, ℕ, ℤ, pos, List, [], ◌∷◌, length, Bool, false, ◌==◌}
use Rattle.doip_json.specs.Sound.{IsWhole}
use Rattle.doip_json.specs.Value.{Value, null, truth, whole, text, list, table}
use Rattle.query_text.specs.Spelling.{AreDigits, number_after, opposite}

-- 1 to 18 decimal digits, and optionally a `-` before them; such a number is in range
abbrev pub IsShortNumeral : List ℕ → ℤ → Type 0
IsShortNumeral bytes number = (digits : List ℕ) × AreDigits digits × (length digits ≤ 18) × IsWhole number
    × (((bytes ≡ digits) × (number ≡ pos (number_after 0 digits)))
    ⊎ ((bytes ≡ 45 ∷ digits) × (number ≡ opposite (number_after 0 digits))))

-- the value gives this number: it is the number, or a text that writes it
abbrev pub IsPageNumber : Value → ℤ → Type 0
IsPageNumber null number = ⊥
IsPageNumber (truth b) number = ⊥
IsPageNumber (whole z) number = number ≡ z
IsPageNumber (text s) number = IsShortNumeral s number
IsPageNumber (list vs) number = ⊥
IsPageNumber (table es) number = ⊥

-- a `-` at the head
abbrev pub is_minus : List ℕ → Bool
is_minus [] = false
is_minus (x ∷ rest) = x == 45
