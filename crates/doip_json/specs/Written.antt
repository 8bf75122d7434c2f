-- The JSON pointer that is written from names (RFC 6901), and what the names lead to.
use Rattle.std.specs.Prelude.{ℕ, List, [], ◌∷◌, ◌==◌, if◌then◌else◌, flat_map, Option, Some, None, option_and_then}
use Rattle.doip_json.specs.Value.{Value, null, truth, whole, text, list, table}
use Rattle.doip_json.specs.Look.{entry_of}
use Rattle.doip_json.specs.Pointer.{position_in, item_of}

-- what is written in a token for a byte of the name: `~0` for `~`, `~1` for `/`, and any other byte itself
abbrev pub in_token : ℕ → List ℕ
in_token x = if x == 126 then 126 ∷ 48 ∷ [] else (if x == 47 then 126 ∷ 49 ∷ [] else x ∷ [])

-- the token of a name
abbrev pub token_of : List ℕ → List ℕ
token_of = flat_map in_token

-- the pointer of names: each token has a slash before it
abbrev pub pointer_of : List (List ℕ) → List ℕ
pointer_of = flat_map (λ name. 47 ∷ token_of name)

-- what a name leads to: the value at this key of an object, or at this position of an array
abbrev pub led_by : List ℕ → Value → Option Value
led_by name null = None
led_by name (truth b) = None
led_by name (whole z) = None
led_by name (text s) = None
led_by name (list vs) = option_and_then (λ i. item_of i vs) (position_in name)
led_by name (table es) = entry_of name es

-- what names lead to, one after another
abbrev pub led_to : List (List ℕ) → Value → Option Value
led_to [] v = Some v
led_to (name ∷ names) v = option_and_then (led_to names) (led_by name v)
