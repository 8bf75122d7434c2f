-- The meaning of a `Json`: plain data, which definitions compute on.
use Rattle.std.specs.Prelude.{ℕ, suc, max, ℤ, List, [], ◌∷◌, Bool}

mutual
  -- null, a boolean, an integer, a string as its UTF-8 bytes, an array, or an object
  pub data Value : Type 0 where
    null : Value
    truth : Bool → Value
    whole : ℤ → Value
    text : List ℕ → Value
    list : Values → Value
    table : Entries → Value

  -- the items of an array, in order
  pub data Values : Type 0 where
    no_values : Values
    value : Value → Values → Values

  -- the entries of an object, each a key and its value, ascending by the keys' bytes
  pub data Entries : Type 0 where
    no_entries : Entries
    entry : List ℕ → Value → Entries → Entries

-- the items of a plain list
abbrev pub values_from : List Value → Values
values_from [] = no_values
values_from (v ∷ vs) = value v (values_from vs)

-- the entries of a plain list of pairs
abbrev pub entries_from : List (List ℕ × Value) → Entries
entries_from [] = no_entries
entries_from (e ∷ es) = entry e.0 e.1 (entries_from es)

-- the items as a plain list
abbrev pub values_in : Values → List Value
values_in no_values = []
values_in (value v vs) = v ∷ values_in vs

-- the entries as a plain list of pairs
abbrev pub entries_in : Entries → List (List ℕ × Value)
entries_in no_entries = []
entries_in (entry k v es) = (k, v) ∷ entries_in es

-- How deep arrays and objects nest: 0 for what is neither, else one more than the deepest value in it.
abbrev mutual
  pub depth_of : Value → ℕ
  depth_of null = 0
  depth_of (truth b) = 0
  depth_of (whole z) = 0
  depth_of (text s) = 0
  depth_of (list vs) = suc (deepest_value vs)
  depth_of (table es) = suc (deepest_entry es)

  -- the depth of the deepest item
  pub deepest_value : Values → ℕ
  deepest_value no_values = 0
  deepest_value (value v vs) = max (depth_of v) (deepest_value vs)

  -- the depth of the deepest value of an entry
  pub deepest_entry : Entries → ℕ
  deepest_entry no_entries = 0
  deepest_entry (entry k v es) = max (depth_of v) (deepest_entry es)
