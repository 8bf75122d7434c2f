-- The bytes of items and entries as they are written, each with a byte beside it: the comma after it or the bracket. A
-- private pass over a value is stated by these.
use Rattle.std.specs.Prelude.{ℕ, ◌+◌, List, [], ◌∷◌, length}
use Rattle.doip_json.specs.Value.{Value}
use Rattle.doip_json.specs.Text.{text_of, string_of}

-- those of the items of an array
abbrev pub items_total : List Value → ℕ
items_total [] = 0
items_total (v ∷ vs) = length (text_of v) + 1 + items_total vs

-- those of one entry of an object: its key, a colon, its value
abbrev pub entry_total : List ℕ → Value → ℕ
entry_total key v = length (string_of key) + 1 + length (text_of v) + 1

-- those of the entries of an object
abbrev pub entries_total : List (List ℕ × Value) → ℕ
entries_total [] = 0
entries_total (e ∷ es) = entry_total e.0 e.1 + entries_total es
