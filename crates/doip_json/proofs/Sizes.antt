-- How long the canonical text of what was parsed is.
use Rattle.std.proofs.Common.{◌≡◌, ℕ, ◌+◌, ◌≤◌, max, List, [], ◌∷◌, ◌++◌, length, true, false, ℤ, Option, Some, None, option_and_then, refl, sym, ap, ◌∙◌, arith}
use Rattle.std.proofs.Common.{Bool, take, ◌<◌, ◌-◌, ◌^◌, ◌&&◌, ◌==◌, suc, not, nat_lt, nat_le, if◌then◌else◌, subst, append-nil, zero, decimal}
use Rattle.std.specs.Prelude.{⊤}
use Rattle.std.proofs.lemmas.Bool.{and_parts}
use Rattle.std.proofs.lemmas.Bool.Decides.{nat_tests}
use Rattle.std.proofs.lemmas.Fmt.{length-decimal-le}
use Rattle.std.proofs.lemmas.Int.Digits.{digits_value-lt}
use Rattle.std.proofs.lemmas.List.{length-take}
use Rattle.std.specs.Str.Parse.{digits_value}
use Rattle.std.specs.Float.{binary64, float_is_finite}
use Rattle.fast_float.specs.Text.{Parts, scan, digits_of, nearest, with_sign}
use Rattle.serde_json.specs.Read.{is_integer, float_of, number_from}
use Rattle.std.specs.Char.{is_ascii_digit, digit_value}
use Rattle.std.specs.List.{prefix_len}
use Rattle.std.specs.Str.Parse.{AllDigits}
use Rattle.std.proofs.lemmas.List.{length-append}
use Rattle.std.specs.Fmt.{signed_decimal}
use Rattle.std.specs.List.{join_with_byte}
use Rattle.std.specs.Ordering.{match_ordering}
use Rattle.std.specs.declared.cmp.Ordering.TheVariants.{Less, Equal, Greater}
use Rattle.std.specs.Ordering.{nat_cmp}
use Rattle.std.specs.Cmp.Lexicographic.{slice_cmp}
use Rattle.serde_json.specs.Data as parsed
use Rattle.serde_json.specs.Find.{as_integer}
use Rattle.serde_json.specs.Read.{number_of, of_json, of_items, of_members}
use Rattle.json.specs.Json as tree
use Rattle.doip_json.specs.Value.{Value, null, truth, whole, text, list, table, Values, no_values, value, Entries, no_entries, entry}
use Rattle.doip_json.specs.Read.{value_in, values_in, entries_in}
use Rattle.doip_json.specs.Text.{text_of, item_texts, entry_texts, string_of}
use Rattle.doip_json.proofs.Depths.{some_mapped, some_paired}

-- texts with a comma after each
abbrev texts_size : List (List ℕ) → ℕ
texts_size [] = 0
texts_size (x ∷ xs) = length x + 1 + texts_size xs

length-join : (x : List ℕ) (xs : List (List ℕ)) → length (join_with_byte 44 (x ∷ xs)) + 1 ≡ texts_size (x ∷ xs)
length-join x [] = omega arith
length-join x (y ∷ ys) = omega (arith, length-append x (44 ∷ join_with_byte 44 (y ∷ ys)), length-join y ys)

closed : (first last : ℕ) (xs : List (List ℕ)) → length (first ∷ (join_with_byte 44 xs ++ last ∷ [])) ≡ 1 + max 1 (texts_size xs)
closed first last [] = omega arith
closed first last (x ∷ xs) = omega (arith, length-append (join_with_byte 44 (x ∷ xs)) (last ∷ []), length-join x xs)

abbrev integer_size : Option ℤ → ℕ
integer_size None = 0
integer_size (Some z) = length (signed_decimal z)

abbrev mutual
  pub data_size : parsed.Data → ℕ
  data_size parsed.null = 4
  data_size (parsed.boolean true) = 4
  data_size (parsed.boolean false) = 5
  data_size (parsed.number n) = integer_size (as_integer n)
  data_size (parsed.string s) = length (string_of s)
  data_size (parsed.array ds) = 1 + max 1 (items_size ds)
  data_size (parsed.object ms) = 1 + max 1 (members_size ms)

  pub items_size : parsed.Items → ℕ
  items_size parsed.no_items = 0
  items_size (parsed.item d ds) = data_size d + 1 + items_size ds

  pub members_size : parsed.Members → ℕ
  members_size parsed.no_members = 0
  members_size (parsed.member k d ms) = length (string_of k) + 2 + data_size d + members_size ms

mutual
  pub length-value_in : (d : parsed.Data) (v : Value) → value_in d ≡ Some v → length (text_of v) ≡ data_size d
  length-value_in parsed.null v e = let is : v ≡ null = cc in ap (λ w. length (text_of w)) is
  length-value_in (parsed.boolean true) v e = let is : v ≡ truth true = cc in ap (λ w. length (text_of w)) is
  length-value_in (parsed.boolean false) v e = let is : v ≡ truth false = cc in ap (λ w. length (text_of w)) is
  length-value_in (parsed.number n) v e =
      let some = some_mapped whole (as_integer n) v e in ap (λ w. length (text_of w)) some.2 ∙ ap integer_size (sym some.1)
  length-value_in (parsed.string s) v e = let is : v ≡ text s = cc in ap (λ w. length (text_of w)) is
  length-value_in (parsed.array ds) v e =
      let some = some_mapped list (values_in ds) v e in
      ap (λ w. length (text_of w)) some.2 ∙ closed 91 93 (item_texts some.0) ∙ ap (λ n. 1 + max 1 n) (texts-values_in ds some.0 some.1)
  length-value_in (parsed.object ms) v e =
      let some = some_mapped table (entries_in ms) v e in
      ap (λ w. length (text_of w)) some.2 ∙ closed 123 125 (entry_texts some.0) ∙ ap (λ n. 1 + max 1 n) (texts-entries_in ms some.0 some.1)

  texts-values_in : (ds : parsed.Items) (vs : Values) → values_in ds ≡ Some vs → texts_size (item_texts vs) ≡ items_size ds
  texts-values_in parsed.no_items vs e = let is : vs ≡ no_values = cc in ap (λ w. texts_size (item_texts w)) is
  texts-values_in (parsed.item d ds) vs e =
      let some = some_paired value (value_in d) (values_in ds) vs e in
      ap (λ w. texts_size (item_texts w)) some.4 ∙ omega (arith, length-value_in d some.0 some.2, texts-values_in ds some.1 some.3)

  texts-entries_in : (ms : parsed.Members) (es : Entries) → entries_in ms ≡ Some es → texts_size (entry_texts es) ≡ members_size ms
  texts-entries_in parsed.no_members es e = let is : es ≡ no_entries = cc in ap (λ w. texts_size (entry_texts w)) is
  texts-entries_in (parsed.member k d ms) es e =
      let some = some_paired (entry k) (value_in d) (entries_in ms) es e in
      ap (λ w. texts_size (entry_texts w)) some.4
      ∙ omega (arith, length-append (string_of k) (58 ∷ text_of some.0), length-value_in d some.0 some.2, texts-entries_in ms some.1 some.3)

-- ---- from the tree of the text

abbrev mutual
  pub tree_size : tree.Json → ℕ
  tree_size tree.null = 4
  tree_size (tree.boolean true) = 4
  tree_size (tree.boolean false) = 5
  tree_size (tree.number s) = length s
  tree_size (tree.string s) = length (string_of s)
  tree_size (tree.array js) = 1 + max 1 (tree_items js)
  tree_size (tree.object ms) = 1 + max 1 (tree_members ms)

  pub tree_items : tree.Items → ℕ
  tree_items tree.no_items = 0
  tree_items (tree.item j js) = tree_size j + 1 + tree_items js

  pub tree_members : tree.Members → ℕ
  tree_members tree.no_members = 0
  tree_members (tree.member k j ms) = length (string_of k) + 2 + tree_size j + tree_members ms

pub members_size-put : (k : List ℕ) (d : parsed.Data) (ms : parsed.Members) → members_size (parsed.put k d ms) ≤ length (string_of k) + 2 + data_size d + members_size ms
members_size-put k d parsed.no_members = omega arith
members_size-put k d (parsed.member l e ms) =
    elim (slice_cmp nat_cmp k l) as (λ o. members_size (match_ordering o (parsed.member k d (parsed.member l e ms)) (parsed.member l d ms) (parsed.member l e (parsed.put k d ms)))
    ≤ length (string_of k) + 2 + data_size d + (length (string_of l) + 2 + data_size e + members_size ms)) [
      | Less ↦ omega arith
      | Equal ↦ omega arith
      | Greater ↦ omega (arith, members_size-put k d ms)
    ]

pub some_then : {A B : Type 0} (o : Option A) (f : A → Option B) (b : B) → option_and_then f o ≡ Some b → (a : A) × (o ≡ Some a) × (f a ≡ Some b)
some_then None f b e = absurd (cc)
some_then (Some a) f b e = (a, refl, e)

-- ---- numbers

digit_is : (x : ℕ) → is_ascii_digit x ≡ true → digit_value x < 10
digit_is x h = grind arith

digits_first : (s : List ℕ) → AllDigits 10 (take (prefix_len is_ascii_digit s) s)
digits_first [] = tt
digits_first (x ∷ s) = at (is_ascii_digit x) refl (digits_first s)
  where
    at : (b : Bool) → is_ascii_digit x ≡ b → AllDigits 10 (take (prefix_len is_ascii_digit s) s) → AllDigits 10 (take (prefix_len is_ascii_digit (x ∷ s)) (x ∷ s))
    at true e rest =
        let shape : 1 + prefix_len is_ascii_digit s ≡ suc (prefix_len is_ascii_digit s) = omega arith in
        rw e (rw shape (digit_is x e, rest))
    at false e rest = rw e tt

scanned-whole : (t : List ℕ) → (scan t).whole ≡ take (prefix_len is_ascii_digit t) t
unfolding scan
scanned-whole t =
    let same : 0 + prefix_len is_ascii_digit t - 0 ≡ prefix_len is_ascii_digit t = omega arith in
    ap (λ n. take n t) same

scanned-fraction : (t : List ℕ) → (scan t).point ≡ false → (scan t).fraction ≡ []
unfolding scan
scanned-fraction t h = rw h refl

length-whole : (t : List ℕ) → length (scan t).whole ≤ length t
length-whole t = omega (arith, ap length (scanned-whole t), length-take (prefix_len is_ascii_digit t) t)

digits_of-lt : (t : List ℕ) → (scan t).point ≡ false → digits_of (scan t) < 10 ^ length (scan t).whole
digits_of-lt t h =
    let bare : (scan t).whole ++ (scan t).fraction ≡ (scan t).whole = ap (λ f. (scan t).whole ++ f) (scanned-fraction t h) ∙ append-nil (scan t).whole in
    let digits : AllDigits 10 (scan t).whole = subst (AllDigits 10) (sym (scanned-whole t)) (digits_first t) in
    omega (arith, ap (digits_value 10) bare, digits_value-lt 10 (scan t).whole digits)

abbrev IsShort : Option parsed.Num → ℕ → Type 0
IsShort None k = ⊤
IsShort (Some n) k = integer_size (as_integer n) ≤ k

short_float : (sign : Bool) (p : Parts) (k : ℕ) → IsShort (float_of sign p) k
short_float sign p k = elim (float_is_finite (nearest binary64 sign p)) as (λ b. IsShort (if b then Some (parsed.float (nearest binary64 sign p)) else None) k) [
  | true ↦ omega arith
  | false ↦ tt
]

no_point : (p : Parts) → is_integer p ≡ true → (0 < length p.whole) × (p.point ≡ false)
no_point p h =
    let parts = and_parts (nat_lt 0 (length p.whole) && not p.point) (length p.exponent == 0) h in
    let first = and_parts (nat_lt 0 (length p.whole)) (not p.point) parts.0 in
    (lt_from (length p.whole) first.0, not_from p.point first.1)
  where
    lt_from : (n : ℕ) → nat_lt 0 n ≡ true → 0 < n
    lt_from n e = grind (arith, nat_tests)

    not_from : (b : Bool) → not b ≡ true → b ≡ false
    not_from true e = absurd (cc)
    not_from false e = refl

short_unsigned : (t : List ℕ) → IsShort (number_from false (scan t)) (length t)
short_unsigned t = at (is_integer (scan t) && nat_lt (digits_of (scan t)) (2 ^ 64)) refl
  where
    at : (b : Bool) → (is_integer (scan t) && nat_lt (digits_of (scan t)) (2 ^ 64)) ≡ b → IsShort (number_from false (scan t)) (length t)
    at true e =
        let parts = and_parts (is_integer (scan t)) (nat_lt (digits_of (scan t)) (2 ^ 64)) e in
        let shape = no_point (scan t) parts.0 in
        let low : digits_of (scan t) < 2 ^ 64 = grind (arith, nat_tests, parts.1) in
        let short = length-decimal-le (length (scan t).whole) (digits_of (scan t)) shape.0 (digits_of-lt t shape.1) low in
        rw e (omega (arith, short, length-whole t))
    at false e = rw e (short_float false (scan t) (length t))

length-negative : (m k : ℕ) → 0 < m → m < 2 ^ 64 → length (decimal m) ≤ k → length (signed_decimal (with_sign true m)) ≤ k + 1
length-negative zero k some low h = absurd (omega arith)
length-negative (suc m) k some low h = omega arith

short_negative : (t : List ℕ) → IsShort (number_from true (scan t)) (length t + 1)
short_negative t = at (is_integer (scan t) && nat_lt 0 (digits_of (scan t)) && nat_le (digits_of (scan t)) (2 ^ 63)) refl
  where
    at : (b : Bool) → (is_integer (scan t) && nat_lt 0 (digits_of (scan t)) && nat_le (digits_of (scan t)) (2 ^ 63)) ≡ b
        → IsShort (number_from true (scan t)) (length t + 1)
    at true e =
        let m = digits_of (scan t) in
        let parts = and_parts (is_integer (scan t) && nat_lt 0 m) (nat_le m (2 ^ 63)) e in
        let first = and_parts (is_integer (scan t)) (nat_lt 0 m) parts.0 in
        let shape = no_point (scan t) first.0 in
        let some : 0 < m = grind (arith, nat_tests, first.1) in
        let low : m ≤ 2 ^ 63 = grind (arith, nat_tests, parts.1) in
        let short = length-decimal-le (length (scan t).whole) m shape.0 (digits_of-lt t shape.1) (omega arith) in
        rw e (omega (arith, length-negative m (length (scan t).whole) some (omega arith) short, length-whole t))
    at false e = rw e (short_float true (scan t) (length t + 1))

short : (s : List ℕ) → IsShort (number_of s) (length s)
unfolding number_of
short [] = short_unsigned []
short (x ∷ xs) = elim (x == 45) as (λ b. IsShort (if b then number_from true (scan xs) else number_from false (scan (x ∷ xs))) (length (x ∷ xs))) [
  | true ↦ let more : length xs + 1 ≡ length (x ∷ xs) = omega arith in subst (IsShort (number_from true (scan xs))) more (short_negative xs)
  | false ↦ short_unsigned (x ∷ xs)
]

integer_size-le : (s : List ℕ) (n : parsed.Num) → number_of s ≡ Some n → integer_size (as_integer n) ≤ length s
integer_size-le s n e = subst (λ o. IsShort o (length s)) e (short s)

mutual
  pub data_size-le : (j : tree.Json) (d : parsed.Data) → of_json j ≡ Some d → data_size d ≤ tree_size j
  data_size-le tree.null d e = let is : d ≡ parsed.null = cc in omega (arith, ap data_size is)
  data_size-le (tree.boolean true) d e = let is : d ≡ parsed.boolean true = cc in omega (arith, ap data_size is)
  data_size-le (tree.boolean false) d e = let is : d ≡ parsed.boolean false = cc in omega (arith, ap data_size is)
  data_size-le (tree.number s) d e =
      let some = some_mapped parsed.number (number_of s) d e in omega (arith, ap data_size some.2, integer_size-le s some.0 some.1)
  data_size-le (tree.string s) d e = let is : d ≡ parsed.string s = cc in omega (arith, ap data_size is)
  data_size-le (tree.array js) d e =
      let some = some_mapped parsed.array (of_items js) d e in omega (arith, ap data_size some.2, items_size-le js some.0 some.1)
  data_size-le (tree.object ms) d e =
      let some = some_mapped parsed.object (of_members ms parsed.no_members) d e in
      omega (arith, ap data_size some.2, members_size-le ms parsed.no_members some.0 some.1)

  items_size-le : (js : tree.Items) (ds : parsed.Items) → of_items js ≡ Some ds → items_size ds ≤ tree_items js
  items_size-le tree.no_items ds e = let is : ds ≡ parsed.no_items = cc in omega (arith, ap items_size is)
  items_size-le (tree.item j js) ds e =
      let some = some_paired parsed.item (of_json j) (of_items js) ds e in
      omega (arith, ap items_size some.4, data_size-le j some.0 some.2, items_size-le js some.1 some.3)

  members_size-le : (ms : tree.Members) (found made : parsed.Members) → of_members ms found ≡ Some made → members_size made ≤ members_size found + tree_members ms
  members_size-le tree.no_members found made e = let is : found ≡ made = cc in omega (arith, ap members_size is)
  members_size-le (tree.member k j ms) found made e =
      let some = some_then (of_json j) (λ d. of_members ms (parsed.put k d found)) made e in
      omega (arith, data_size-le j some.0 some.1, members_size-put k some.0 found, members_size-le ms (parsed.put k some.0 found) made some.2)
