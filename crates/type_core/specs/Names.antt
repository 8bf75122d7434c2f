-- Types by their names, and the names that type objects give (after Cordra): this project's own rule.
use Rattle.std.specs.Prelude.{ℕ, List, codes, length, nat_eq, nat_le, Bool, not, ◌&&◌, ◌||◌, if◌then◌else◌, Option, None, option_and_then, unwrap_or}
use Rattle.std.specs.Cmp.Lexicographic.{pointwise}
use Rattle.doip_json.specs.Value.{Value, null, entries_from}
use Rattle.doip_json.specs.Look.{entry_of, field_of}
use Rattle.dobj_model.specs.Name.{most_name}
use Rattle.dobj_model.specs.declared.object.ObjectValue.{ObjectValue}
use Rattle.schema_core.specs.Failing.{string_in}

-- the same text
abbrev pub is_text : List ℕ → List ℕ → Bool
is_text = pointwise nat_eq

-- the types that are built in: that of plain objects, and that of type objects
abbrev pub plain_type : List ℕ
plain_type = codes "0.TYPE/DO"

abbrev pub schema_type : List ℕ
schema_type = codes "Schema"

abbrev pub is_built_in : List ℕ → Bool
is_built_in name = is_text name plain_type || is_text name schema_type

-- a name that a type object may give: 1 to 255 bytes, and that of no type that is built in
abbrev pub may_name : List ℕ → Bool
may_name name = nat_le 1 (length name) && (nat_le (length name) most_name && not (is_built_in name))

-- the `content` of an object
abbrev pub content_of : ObjectValue → Option Value
content_of o = entry_of (codes "content") (entries_from o.attributes)

-- the content that is checked: `null` where the object has none
abbrev pub checked_content : ObjectValue → Value
checked_content o = unwrap_or (content_of o) null

-- the string at a key of an object
abbrev pub string_at : List ℕ → Value → Option (List ℕ)
string_at key v = option_and_then string_in (field_of key v)

-- an object of the type `Schema`, which makes a type
abbrev pub is_type_object : ObjectValue → Bool
is_type_object o = is_text o.type_name schema_type

-- the name that a type object gives to its type
abbrev pub name_given : ObjectValue → Option (List ℕ)
name_given o = if is_type_object o then string_at (codes "name") (checked_content o) else None
