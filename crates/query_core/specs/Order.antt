-- The order of objects by keys. This project's own.
use Rattle.std.specs.Prelude.{ℕ, ℤ, pos, List, [], ◌∷◌, true, false, if◌then◌else◌, Option, Some, None}
use Rattle.std.specs.List.{find}
use Rattle.std.specs.Ordering.{nat_cmp, int_cmp, on, then_cmp, flip_args}
use Rattle.std.specs.Cmp.Lexicographic.{slice_cmp}
use Rattle.std.specs.declared.cmp.Ordering.{Ordering}
use Rattle.doip_json.specs.Value.{Value, null, truth, whole, text, list, table}
use Rattle.dobj_model.specs.declared.object.ObjectValue.{ObjectValue}
use Rattle.dobj_field.specs.declared.field.Field.{Field}
use Rattle.dobj_field.specs.Reach.{reached, is_scalar}
use Rattle.query_core.specs.declared.order.SortKey.{SortKey}

-- the key of an object: the first string, number or boolean that the field reaches
abbrev pub key_of : Field → ObjectValue → Option Value
key_of field object = find is_scalar (reached field object)

-- numbers come first, then strings, then `false`, then `true`; an object without a key is last
abbrev pub kind_of : Option Value → ℕ
kind_of None = 4
kind_of (Some null) = 4
kind_of (Some (truth false)) = 2
kind_of (Some (truth true)) = 3
kind_of (Some (whole z)) = 0
kind_of (Some (text s)) = 1
kind_of (Some (list vs)) = 4
kind_of (Some (table es)) = 4

-- the number of a key that is one
abbrev pub number_in : Option Value → ℤ
number_in None = pos 0
number_in (Some null) = pos 0
number_in (Some (truth b)) = pos 0
number_in (Some (whole z)) = z
number_in (Some (text s)) = pos 0
number_in (Some (list vs)) = pos 0
number_in (Some (table es)) = pos 0

-- the string of a key that is one
abbrev pub string_in : Option Value → List ℕ
string_in None = []
string_in (Some null) = []
string_in (Some (truth b)) = []
string_in (Some (whole z)) = []
string_in (Some (text s)) = s
string_in (Some (list vs)) = []
string_in (Some (table es)) = []

-- ascending: by kind, two numbers by size, two strings by bytes
abbrev pub rising : Option Value → Option Value → Ordering
rising = then_cmp (on kind_of nat_cmp) (then_cmp (on number_in int_cmp) (on string_in (slice_cmp nat_cmp)))

-- 1 for an object without a key
abbrev pub lack_of : Option Value → ℕ
lack_of None = 1
lack_of (Some v) = 0

-- descending: the keys the other way round, and an object without a key last as well
abbrev pub falling : Option Value → Option Value → Ordering
falling = then_cmp (on lack_of nat_cmp) (flip_args rising)

-- by one key
abbrev pub by_key : SortKey → ObjectValue → ObjectValue → Ordering
by_key key = on (key_of key.field) (if key.descending then falling else rising)

-- by the bytes of the identifiers
abbrev pub by_id : ObjectValue → ObjectValue → Ordering
by_id = on (λ object. object.id) (slice_cmp nat_cmp)

-- by each key in turn, and ties by identifier
abbrev pub by_keys : List SortKey → ObjectValue → ObjectValue → Ordering
by_keys [] = by_id
by_keys (key ∷ keys) = then_cmp (by_key key) (by_keys keys)
