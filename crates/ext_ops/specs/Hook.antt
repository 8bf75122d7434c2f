-- What the write hooks make of content: this project's own.
use Rattle.std.specs.Prelude.{ℕ, pos, ◌-◌, List, length, take, drop, map, filter, nat_eq, Bool, not, ◌||◌, ◌==◌, codes, Result, Ok, Err}
use Rattle.std.specs.List.{prefix_len, suffix_len}
use Rattle.std.specs.Ordering.{nat_cmp}
use Rattle.std.specs.Cmp.Lexicographic.{slice_cmp, pointwise}
use Rattle.std.specs.BTreeMap.{insert_entry}
use Rattle.std.specs.Map.{keys_of}
use Rattle.doip_json.specs.Value.{Value, null, truth, whole, text, list, table, entries_from, entries_in}
use Rattle.doip_json.specs.Meaning.{value_of}
use Rattle.ext_ops.specs.declared.code.HookCode.{HookCode}
use Rattle.ext_ops.specs.declared.code.HookCode.TheVariants.{Trim, Count}
use Rattle.ext_ops.specs.declared.answer.HookAnswer.{HookAnswer}
use Rattle.ext_ops.specs.declared.answer.HookAnswer.TheVariants.{Content, Refused}

-- an answer as plain data: the content, or the text of the refusal
abbrev pub content_of : HookAnswer → Result Value (List ℕ)
content_of (Content json) = Ok (value_of json)
content_of (Refused reason) = Err reason

-- space, tab, CR or LF
abbrev pub is_white : ℕ → Bool
is_white x = (x == 32) || ((x == 9) || ((x == 13) || (x == 10)))

-- a text without the white bytes at its start
abbrev pub without_leading : List ℕ → List ℕ
without_leading s = drop (prefix_len is_white s) s

-- a text without the white bytes at its end
abbrev pub without_trailing : List ℕ → List ℕ
without_trailing s = take (length s - suffix_len is_white s) s

-- a text without the white bytes at its start and end
abbrev pub trimmed : List ℕ → List ℕ
trimmed s = without_trailing (without_leading s)

-- a string trimmed, and any other value as it is
abbrev pub trimmed_value : Value → Value
trimmed_value null = null
trimmed_value (truth b) = truth b
trimmed_value (whole z) = whole z
trimmed_value (text s) = text (trimmed s)
trimmed_value (list vs) = list vs
trimmed_value (table es) = table es

-- an entry with its string trimmed
abbrev pub trimmed_entry : List ℕ × Value → List ℕ × Value
trimmed_entry e = (e.0, trimmed_value e.1)

-- an object with the strings directly under its keys trimmed, and any other value as it is
abbrev pub with_trimmed : Value → Value
with_trimmed null = null
with_trimmed (truth b) = truth b
with_trimmed (whole z) = whole z
with_trimmed (text s) = text s
with_trimmed (list vs) = list vs
with_trimmed (table es) = table (entries_from (map trimmed_entry (entries_in es)))

-- the keys but `count`
abbrev pub other_keys : List (List ℕ × Value) → List (List ℕ)
other_keys es = filter (λ key. not (pointwise nat_eq key (codes "count"))) (keys_of es)

-- entries with the number of their other keys at `count`
abbrev pub with_count : List (List ℕ × Value) → List (List ℕ × Value)
with_count es = insert_entry (slice_cmp nat_cmp) es (codes "count") (whole (pos (length (other_keys es))))

-- an object with the number of its other keys at `count`, and nothing else
abbrev pub counted : Value → Result Value (List ℕ)
counted null = Err (codes "content")
counted (truth b) = Err (codes "content")
counted (whole z) = Err (codes "content")
counted (text s) = Err (codes "content")
counted (list vs) = Err (codes "content")
counted (table es) = Ok (table (entries_from (with_count (entries_in es))))

-- what a hook makes of content: other content, or the text of its refusal
abbrev pub hook : HookCode → Value → Result Value (List ℕ)
hook Trim content = Ok (with_trimmed content)
hook Count content = counted content
