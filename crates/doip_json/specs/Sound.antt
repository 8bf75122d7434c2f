-- What is true of the meaning of every `Json`.
use Rattle.std.specs.Prelude.{ℕ, ◌^◌, ◌<◌, ℤ, pos, negsuc, List, [], ◌∷◌, IsUtf8, ⊤}
use Rattle.std.specs.Ordering.{nat_cmp}
use Rattle.std.specs.Cmp.Lexicographic.{slice_cmp}
use Rattle.std.specs.List.Sorted.{IsStrictlySortedBy}
use Rattle.doip_json.specs.Value.{Value, null, truth, whole, text, list, table, Values, no_values, value, Entries, no_entries, entry}

-- an integer from -2^63 to 2^64 - 1
abbrev pub IsWhole : ℤ → Type 0
IsWhole (pos n) = n < 2 ^ 64
IsWhole (negsuc n) = n < 2 ^ 63

-- the keys, in order
abbrev pub keys_in : Entries → List (List ℕ)
keys_in no_entries = []
keys_in (entry k v es) = k ∷ keys_in es

-- each key is below those after it, compared by bytes
abbrev pub IsAscending : List (List ℕ) → Type 0
IsAscending = IsStrictlySortedBy (slice_cmp nat_cmp)

-- strings and keys are UTF-8, numbers are in range, and the keys of each object ascend
abbrev mutual
  pub IsSound : Value → Type 0
  IsSound null = ⊤
  IsSound (truth b) = ⊤
  IsSound (whole z) = IsWhole z
  IsSound (text s) = IsUtf8 s
  IsSound (list vs) = AreSound vs
  IsSound (table es) = IsAscending (keys_in es) × EntriesAreSound es

  -- the same of the items of an array
  pub AreSound : Values → Type 0
  AreSound no_values = ⊤
  AreSound (value v vs) = IsSound v × AreSound vs

  -- the same of the entries of an object
  pub EntriesAreSound : Entries → Type 0
  EntriesAreSound no_entries = ⊤
  EntriesAreSound (entry k v es) = IsUtf8 k × IsSound v × EntriesAreSound es
