-- What a JSON pointer names (RFC 6901). That a position has at most 9 digits, and that every fault finds nothing, is
-- this project's own.
use Rattle.std.specs.Prelude.{ℕ, zero, suc, List, [], ◌∷◌, length, slice_index, Bool, not, ◌&&◌, ◌||◌, ◌==◌, nat_lt, nat_le, if◌then◌else◌, Option, Some, None, option_map, option_and_then}
use Rattle.std.specs.Str.{all_ascii_digits}
use Rattle.std.specs.Str.Parse.{digits_value}
use Rattle.doip_json.specs.Value.{Value, null, truth, whole, text, list, table, Values, no_values, value}
use Rattle.doip_json.specs.Look.{entry_of}

-- The name that a token writes: `~0` is `~`, `~1` is `/`, and a `~` before anything else is a fault.
unfoldable pub unescaped : List ℕ → Option (List ℕ)
unescaped [] = Some []
unescaped (x ∷ []) = if x == 126 then None else Some (x ∷ [])
unescaped (x ∷ y ∷ rest) =
    if x == 126 then (if y == 48 then option_map (λ s. 126 ∷ s) (unescaped rest)
    else (if y == 49 then option_map (λ s. 47 ∷ s) (unescaped rest) else None))
    else option_map (λ s. x ∷ s) (unescaped (y ∷ rest))

-- 1 to 9 digits, with no leading zero
abbrev pub is_position : List ℕ → Bool
is_position s =
    nat_lt 0 (length s) && nat_le (length s) 9 && ((length s == 1) || not (slice_index s 0 == 48)) && all_ascii_digits s

-- the position that a token names
abbrev pub position_in : List ℕ → Option ℕ
position_in s = if is_position s then Some (digits_value 10 s) else None

-- the item at a position
abbrev pub item_of : ℕ → Values → Option Value
item_of i no_values = None
item_of zero (value v vs) = Some v
item_of (suc i) (value v vs) = item_of i vs

-- what a token names in a value
abbrev pub named_by : List ℕ → Value → Option Value
named_by token null = None
named_by token (truth b) = None
named_by token (whole z) = None
named_by token (text s) = None
named_by token (list vs) = option_and_then (λ i. item_of i vs) (position_in token)
named_by token (table es) = option_and_then (λ k. entry_of k es) (unescaped token)

-- a byte before the first part
abbrev pub with_byte : ℕ → List (List ℕ) → List (List ℕ)
with_byte x [] = (x ∷ []) ∷ []
with_byte x (p ∷ ps) = (x ∷ p) ∷ ps

-- the parts of a text between its slashes
abbrev pub parts_of : List ℕ → List (List ℕ)
parts_of [] = [] ∷ []
parts_of (x ∷ xs) = if x == 47 then [] ∷ parts_of xs else with_byte x (parts_of xs)

-- one token after another
abbrev pub followed : List (List ℕ) → Value → Option Value
followed [] v = Some v
followed (t ∷ ts) v = option_and_then (followed ts) (named_by t v)

-- the value that a pointer names
abbrev pub pointed : List ℕ → Value → Option Value
pointed [] v = Some v
pointed (x ∷ rest) v = if x == 47 then followed (parts_of rest) v else None
