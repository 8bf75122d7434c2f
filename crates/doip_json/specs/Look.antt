-- What a look into a value finds.
use Rattle.std.specs.Prelude.{ℕ, List, nat_eq, if◌then◌else◌, Option, Some, None}
use Rattle.std.specs.Cmp.Lexicographic.{pointwise}
use Rattle.doip_json.specs.Value.{Value, null, truth, whole, text, list, table, Entries, no_entries, entry}

-- the value of the first entry that has the key
abbrev pub entry_of : List ℕ → Entries → Option Value
entry_of k no_entries = None
entry_of k (entry l v es) = if pointwise nat_eq k l then Some v else entry_of k es

-- the value at a key, of an object that has the key
abbrev pub field_of : List ℕ → Value → Option Value
field_of k null = None
field_of k (truth b) = None
field_of k (whole z) = None
field_of k (text s) = None
field_of k (list vs) = None
field_of k (table es) = entry_of k es
