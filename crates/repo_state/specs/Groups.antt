-- Who is in which group. This project's own rule.
use Rattle.std.specs.Prelude.{ℕ, List, codes, nat_eq, Bool, false, ◌&&◌, Option, Some, None, option_and_then}
use Rattle.std.specs.Cmp.Lexicographic.{pointwise}
use Rattle.std.specs.List.{list_any}
use Rattle.std.specs.FinMap as map
use Rattle.doip_json.specs.Value.{Value, null, truth, whole, text, list, table, values_in, entries_from}
use Rattle.doip_json.specs.Look.{entry_of, field_of}
use Rattle.dobj_model.specs.declared.object.ObjectValue.{ObjectValue}
use Rattle.repo_state.specs.Contents.{Objects}

-- the same text
abbrev pub is_text : List ℕ → List ℕ → Bool
is_text = pointwise nat_eq

-- the value is this string
abbrev pub is_string : List ℕ → Value → Bool
is_string word null = false
is_string word (truth b) = false
is_string word (whole z) = false
is_string word (text s) = is_text s word
is_string word (list vs) = false
is_string word (table es) = false

-- the value is an array that has this string
abbrev pub lists_string : List ℕ → Value → Bool
lists_string word null = false
lists_string word (truth b) = false
lists_string word (whole z) = false
lists_string word (text s) = false
lists_string word (list vs) = list_any (is_string word) (values_in vs)
lists_string word (table es) = false

-- the value is there, and it passes
abbrev pub is_there_and : {A : Type 0} → (A → Bool) → Option A → Bool
is_there_and passes None = false
is_there_and passes (Some a) = passes a

-- the `content` of an object
abbrev pub content_of : ObjectValue → Option Value
content_of o = entry_of (codes "content") (entries_from o.attributes)

-- the object is a group that has the user: its type is `Group`, and the array `users` of its content has the identifier
abbrev pub has_user : List ℕ → ObjectValue → Bool
has_user user o =
    is_text o.type_name (codes "Group")
    && is_there_and (lists_string user) (option_and_then (field_of (codes "users")) (content_of o))

-- the group of an identifier has a user
abbrev pub is_in_group : Objects → List ℕ → List ℕ → Bool
is_in_group objects group user = is_there_and (has_user user) (map.get objects group)
