-- The canonical text of a sound value reads back as the value.
use Rattle.std.proofs.Common.{◌≡◌, ℕ, suc, ◌≤◌, max, List, [], ◌∷◌, ◌++◌, true, false, Some, Ok, option_map, option_and_then, IsUtf8, refl, sym, ap, ap₂, ◌∙◌, subst, append_assoc, append-nil, arith}
use Rattle.std.proofs.lemmas.Str.{IsUtf8-append}
use Rattle.std.specs.List.{AllByRecursion, join_with_byte}
use Rattle.std.specs.List.Sorted.{IsStrictlySortedBy}
use Rattle.std.specs.declared.cmp.Ordering.TheVariants.{Less}
use Rattle.json.specs.Token as token
use Rattle.json.specs.Json as json
use Rattle.json.specs.Tree as tree
use Rattle.json.specs.Print.{print}
use Rattle.json.specs.Lex.{tokens}
use Rattle.json.proofs.Printed.Utf8.{are_ascii, IsUtf8-are_ascii, IsUtf8-quoted}
use Rattle.json.proofs.Printed.Tokens.{tokens-print}
use Rattle.json.proofs.Printed.Trees.{ArePrintable-json_tokens, value-json_tokens}
use Rattle.serde_json.specs.Data as parsed
use Rattle.serde_json.specs.Find.{of_integer}
use Rattle.serde_json.specs.Read.{read, of_json, of_items, of_members}
use Rattle.serde_json.specs.Written.{outline, items_outline, members_outline}
use Rattle.doip_json.specs.Value.{Value, null, truth, whole, text, list, table, Values, no_values, value, Entries, no_entries, entry, depth_of, deepest_value, deepest_entry}
use Rattle.doip_json.specs.Sound.{IsSound, AreSound, EntriesAreSound, IsAscending, keys_in}
use Rattle.doip_json.specs.Text.{text_of, item_texts, entry_texts, string_of}
use Rattle.doip_json.specs.Tokens.{tokens_of, item_tokens, entry_tokens}
use Rattle.doip_json.specs.Read.{value_in, values_in, entries_in, reading, or_fault}
use Rattle.doip_json.specs.declared.fault.TextFault.TheVariants.{NotWhole}
use Rattle.doip_json.proofs.Ascending.{compared, above}
use Rattle.doip_json.proofs.Numerals.{IsNumber-whole, IsUtf8-whole, number_text-whole, number_of-whole, as_integer-whole}
use Rattle.doip_json.proofs.Outcomes.{reading_some, within_shallow}
use Rattle.doip_json.proofs.Printed.{print-tokens_of, quoted_same}

-- the data of `serde_json` for a value
abbrev mutual
  data_of : Value → parsed.Data
  data_of null = parsed.null
  data_of (truth b) = parsed.boolean b
  data_of (whole z) = parsed.number (of_integer z)
  data_of (text s) = parsed.string s
  data_of (list vs) = parsed.array (items_of vs)
  data_of (table es) = parsed.object (members_of es)

  items_of : Values → parsed.Items
  items_of no_values = parsed.no_items
  items_of (value v vs) = parsed.item (data_of v) (items_of vs)

  members_of : Entries → parsed.Members
  members_of no_entries = parsed.no_members
  members_of (entry k v es) = parsed.member k (data_of v) (members_of es)

mutual
  tokens_same : (v : Value) → tree.json_tokens (outline (data_of v)) ≡ tokens_of v
  tokens_same null = refl
  tokens_same (truth b) = refl
  tokens_same (whole z) = ap (λ s. token.number s ∷ []) (number_text-whole z)
  tokens_same (text s) = refl
  tokens_same (list vs) = ap (λ ts. token.begin_array ∷ ts) (items_same vs)
  tokens_same (table es) = ap (λ ts. token.begin_object ∷ ts) (members_same es)

  items_same : (vs : Values) → tree.items_tokens (items_outline (items_of vs)) ≡ item_tokens vs ++ token.end_array ∷ []
  items_same no_values = refl
  items_same (value v vs) = ap₂ (λ a b. a ++ b) (tokens_same v) (items_same vs) ∙ sym (append_assoc (tokens_of v) (item_tokens vs) (token.end_array ∷ []))

  members_same : (es : Entries) → tree.members_tokens (members_outline (members_of es)) ≡ entry_tokens es ++ token.end_object ∷ []
  members_same no_entries = refl
  members_same (entry k v es) =
      ap (λ ts. token.key k ∷ ts) (ap₂ (λ a b. a ++ b) (tokens_same v) (members_same es) ∙ sym (append_assoc (tokens_of v) (entry_tokens es) (token.end_object ∷ [])))

mutual
  has_numbers : (v : Value) → IsSound v → tree.HasNumbers (outline (data_of v))
  has_numbers null h = tt
  has_numbers (truth b) h = tt
  has_numbers (whole z) h = rw (number_text-whole z) (IsNumber-whole z h)
  has_numbers (text s) h = tt
  has_numbers (list vs) h = items_have_numbers vs h
  has_numbers (table es) h = members_have_numbers es h.1

  items_have_numbers : (vs : Values) → AreSound vs → tree.ItemsHaveNumbers (items_outline (items_of vs))
  items_have_numbers no_values h = tt
  items_have_numbers (value v vs) h = (has_numbers v h.0, items_have_numbers vs h.1)

  members_have_numbers : (es : Entries) → EntriesAreSound es → tree.MembersHaveNumbers (members_outline (members_of es))
  members_have_numbers no_entries h = tt
  members_have_numbers (entry k v es) h = (has_numbers v h.1, members_have_numbers es h.2)

mutual
  depth_same : (v : Value) → parsed.depth (data_of v) ≡ depth_of v
  depth_same null = refl
  depth_same (truth b) = refl
  depth_same (whole z) = refl
  depth_same (text s) = refl
  depth_same (list vs) = ap (λ n. suc n) (items_depth_same vs)
  depth_same (table es) = ap (λ n. suc n) (members_depth_same es)

  items_depth_same : (vs : Values) → parsed.items_depth (items_of vs) ≡ deepest_value vs
  items_depth_same no_values = refl
  items_depth_same (value v vs) = ap₂ max (depth_same v) (items_depth_same vs)

  members_depth_same : (es : Entries) → parsed.members_depth (members_of es) ≡ deepest_entry es
  members_depth_same no_entries = refl
  members_depth_same (entry k v es) = ap₂ max (depth_same v) (members_depth_same es)

mutual
  tree_depth_same : (v : Value) → tree.depth (outline (data_of v)) ≡ depth_of v
  tree_depth_same null = refl
  tree_depth_same (truth b) = refl
  tree_depth_same (whole z) = refl
  tree_depth_same (text s) = refl
  tree_depth_same (list vs) = ap (λ n. suc n) (tree_items_same vs)
  tree_depth_same (table es) = ap (λ n. suc n) (tree_members_same es)

  tree_items_same : (vs : Values) → tree.items_depth (items_outline (items_of vs)) ≡ deepest_value vs
  tree_items_same no_values = refl
  tree_items_same (value v vs) = ap₂ max (tree_depth_same v) (tree_items_same vs)

  tree_members_same : (es : Entries) → tree.members_depth (members_outline (members_of es)) ≡ deepest_entry es
  tree_members_same no_entries = refl
  tree_members_same (entry k v es) = ap₂ max (tree_depth_same v) (tree_members_same es)

mutual
  value_in-data_of : (v : Value) → value_in (data_of v) ≡ Some v
  value_in-data_of null = refl
  value_in-data_of (truth b) = refl
  value_in-data_of (whole z) = ap (option_map whole) (as_integer-whole z)
  value_in-data_of (text s) = refl
  value_in-data_of (list vs) = ap (option_map list) (values_in-items_of vs)
  value_in-data_of (table es) = ap (option_map table) (entries_in-members_of es)

  values_in-items_of : (vs : Values) → values_in (items_of vs) ≡ Some vs
  values_in-items_of no_values = refl
  values_in-items_of (value v vs) = rw (value_in-data_of v, values_in-items_of vs) refl

  entries_in-members_of : (es : Entries) → entries_in (members_of es) ≡ Some es
  entries_in-members_of no_entries = refl
  entries_in-members_of (entry k v es) = rw (value_in-data_of v, entries_in-members_of es) refl

-- ---- members that ascend are put one after another

abbrev member_keys : parsed.Members → List (List ℕ)
member_keys parsed.no_members = []
member_keys (parsed.member k d ms) = k ∷ member_keys ms

abbrev joined : parsed.Members → parsed.Members → parsed.Members
joined parsed.no_members rest = rest
joined (parsed.member k d ms) rest = parsed.member k d (joined ms rest)

abbrev AreBelow : parsed.Members → List ℕ → Type 0
AreBelow ms k = AllByRecursion (λ l. compared l k ≡ Less) (member_keys ms)

put_last : (ms : parsed.Members) (k : List ℕ) (d : parsed.Data) → AreBelow ms k → parsed.put k d ms ≡ joined ms (parsed.member k d parsed.no_members)
put_last parsed.no_members k d below = refl
put_last (parsed.member l e ms) k d below = rw (above k l below.0) (ap (parsed.member l e) (put_last ms k d below.1))

below_more : (ms : parsed.Members) (k : List ℕ) (d : parsed.Data) (l : List ℕ) → AreBelow ms l → compared k l ≡ Less → AreBelow (joined ms (parsed.member k d parsed.no_members)) l
below_more parsed.no_members k d l below one = (one, tt)
below_more (parsed.member m e ms) k d l below one = (below.0, below_more ms k d l below.1 one)

all_below_more : (ms : parsed.Members) (k : List ℕ) (d : parsed.Data) (ls : List (List ℕ)) → AllByRecursion (AreBelow ms) ls → AllByRecursion (λ l. compared k l ≡ Less) ls
    → AllByRecursion (AreBelow (joined ms (parsed.member k d parsed.no_members))) ls
all_below_more ms k d [] below ones = tt
all_below_more ms k d (l ∷ ls) below ones = (below_more ms k d l below.0 ones.0, all_below_more ms k d ls below.1 ones.1)

joined_twice : (ms : parsed.Members) (k : List ℕ) (d : parsed.Data) (rest : parsed.Members) → joined (joined ms (parsed.member k d parsed.no_members)) rest ≡ joined ms (parsed.member k d rest)
joined_twice parsed.no_members k d rest = refl
joined_twice (parsed.member l e ms) k d rest = ap (parsed.member l e) (joined_twice ms k d rest)

joined_none : (ms : parsed.Members) → joined ms parsed.no_members ≡ ms
joined_none parsed.no_members = refl
joined_none (parsed.member k d ms) = ap (parsed.member k d) (joined_none ms)

all_below_none : (ls : List (List ℕ)) → AllByRecursion (AreBelow parsed.no_members) ls
all_below_none [] = tt
all_below_none (l ∷ ls) = (tt, all_below_none ls)

mutual
  unfolding IsStrictlySortedBy

  reads_value : (v : Value) → IsSound v → of_json (outline (data_of v)) ≡ Some (data_of v)
  reads_value null h = refl
  reads_value (truth b) h = refl
  reads_value (whole z) h = rw (number_text-whole z) (ap (option_map parsed.number) (number_of-whole z h))
  reads_value (text s) h = refl
  reads_value (list vs) h = ap (option_map parsed.array) (reads_items vs h)
  reads_value (table es) h = ap (option_map parsed.object) (reads_members es parsed.no_members h.0 (all_below_none (keys_in es)) h.1)

  reads_items : (vs : Values) → AreSound vs → of_items (items_outline (items_of vs)) ≡ Some (items_of vs)
  reads_items no_values h = refl
  reads_items (value v vs) h = rw (reads_value v h.0, reads_items vs h.1) refl

  reads_members : (es : Entries) (found : parsed.Members) → IsAscending (keys_in es) → AllByRecursion (AreBelow found) (keys_in es) → EntriesAreSound es
      → of_members (members_outline (members_of es)) found ≡ Some (joined found (members_of es))
  reads_members no_entries found sorted below h = ap Some (sym (joined_none found))
  reads_members (entry k v es) found sorted below h =
      let d = data_of v in
      let next = reads_members es (joined found (parsed.member k d parsed.no_members)) sorted.1 (all_below_more found k d (keys_in es) below.1 sorted.0) h.2 in
      ap (option_and_then (λ x. of_members (members_outline (members_of es)) (parsed.put k x found))) (reads_value v h.1)
      ∙ (ap (of_members (members_outline (members_of es))) (put_last found k d below.0) ∙ (next ∙ ap Some (joined_twice found k d (members_of es))))

-- ---- the text is UTF-8

string_utf8 : (s : List ℕ) → IsUtf8 s → IsUtf8 (string_of s)
string_utf8 s h = subst IsUtf8 (quoted_same s) (IsUtf8-quoted s h)

joined_utf8 : (xs : List (List ℕ)) → AllByRecursion IsUtf8 xs → IsUtf8 (join_with_byte 44 xs)
joined_utf8 [] h = IsUtf8-are_ascii [] refl
joined_utf8 (x ∷ []) h = h.0
joined_utf8 (x ∷ y ∷ xs) h = IsUtf8-append x (44 ∷ join_with_byte 44 (y ∷ xs)) h.0 (IsUtf8-append (44 ∷ []) (join_with_byte 44 (y ∷ xs)) (IsUtf8-are_ascii (44 ∷ []) refl) (joined_utf8 (y ∷ xs) h.1))

bracketed : (a b : ℕ) → are_ascii (a ∷ []) ≡ true → are_ascii (b ∷ []) ≡ true → (xs : List (List ℕ)) → AllByRecursion IsUtf8 xs → IsUtf8 (a ∷ (join_with_byte 44 xs ++ b ∷ []))
bracketed a b opens closes xs h =
    IsUtf8-append (a ∷ []) (join_with_byte 44 xs ++ b ∷ []) (IsUtf8-are_ascii (a ∷ []) opens) (IsUtf8-append (join_with_byte 44 xs) (b ∷ []) (joined_utf8 xs h) (IsUtf8-are_ascii (b ∷ []) closes))

mutual
  text_utf8 : (v : Value) → IsSound v → IsUtf8 (text_of v)
  text_utf8 null h = IsUtf8-are_ascii _ refl
  text_utf8 (truth true) h = IsUtf8-are_ascii _ refl
  text_utf8 (truth false) h = IsUtf8-are_ascii _ refl
  text_utf8 (whole z) h = IsUtf8-whole z h
  text_utf8 (text s) h = string_utf8 s h
  text_utf8 (list vs) h = bracketed 91 93 refl refl (item_texts vs) (items_utf8 vs h)
  text_utf8 (table es) h = bracketed 123 125 refl refl (entry_texts es) (entries_utf8 es h.1)

  items_utf8 : (vs : Values) → AreSound vs → AllByRecursion IsUtf8 (item_texts vs)
  items_utf8 no_values h = tt
  items_utf8 (value v vs) h = (text_utf8 v h.0, items_utf8 vs h.1)

  entries_utf8 : (es : Entries) → EntriesAreSound es → AllByRecursion IsUtf8 (entry_texts es)
  entries_utf8 no_entries h = tt
  entries_utf8 (entry k v es) h = (IsUtf8-append (string_of k) (58 ∷ text_of v) (string_utf8 k h.0) (IsUtf8-append (58 ∷ []) (text_of v) (IsUtf8-are_ascii (58 ∷ []) refl) (text_utf8 v h.1)), entries_utf8 es h.2)

read_tokens : (j : json.Json) (d : parsed.Data) (bytes : List ℕ) → tokens bytes ≡ tree.json_tokens j → of_json j ≡ Some d → tree.depth j ≤ 127 → read bytes ≡ Some d
read_tokens j d bytes same reads shallow =
    ap (λ o. option_and_then of_json (option_and_then (λ p. json.if_last p.0 p.1) o)) (ap (json.value 127) (same ∙ sym (append-nil (tree.json_tokens j))) ∙ value-json_tokens j 127 [] shallow) ∙ reads

-- The law: the canonical text of a sound value reads back as the value, at each depth that the value keeps, up to 127.
pub reading-text_of : (v : Value) (d : ℕ) → IsSound v → depth_of v ≤ d → d ≤ 127 → reading (text_of v) d ≡ Ok v
reading-text_of v d sound shallow high =
    let ts = tree.json_tokens (outline (data_of v)) in
    let printed : print ts ≡ text_of v = ap print (tokens_same v) ∙ print-tokens_of v in
    let same : tokens (text_of v) ≡ ts = ap tokens (sym printed) ∙ tokens-print ts (ArePrintable-json_tokens (outline (data_of v)) (has_numbers v sound)) in
    let back = read_tokens (outline (data_of v)) (data_of v) (text_of v) same (reads_value v sound) (omega (arith, tree_depth_same v)) in
    reading_some (text_of v) d (data_of v) (text_utf8 v sound) back ∙ (within_shallow d (data_of v) (omega (arith, depth_same v)) ∙ ap (or_fault NotWhole) (value_in-data_of v))
