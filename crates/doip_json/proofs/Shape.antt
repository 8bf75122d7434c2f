-- A canonical text is one line.
use Rattle.std.proofs.Common.{◌≡◌, ℕ, ℤ, pos, negsuc, zero, suc, ◌/◌, ◌%◌, ◌^◌, ◌<◌, ◌≤◌, ◌⊎◌, inl, inr, List, [], ◌∷◌, ◌++◌, length, get_or, Bool, true, false, nat_lt, if◌then◌else◌, flat_map, decimal, refl, arith}
use Rattle.std.proofs.lemmas.Bool.Decides.{nat_tests}
use Rattle.std.proofs.lemmas.Fmt.{decimal_is_IsNumeral}
use Rattle.std.proofs.lemmas.Str.Parse.{digit_at}
use Rattle.std.specs.Char.{digit_char}
use Rattle.std.specs.Fmt.{signed_decimal}
use Rattle.std.specs.List.{All, AllByRecursion, join_with_byte}
use Rattle.doip_json.specs.Value.{Value, null, truth, whole, text, list, table, Values, no_values, value, Entries, no_entries, entry}
use Rattle.doip_json.specs.Sound.{IsWhole, IsSound, AreSound, EntriesAreSound}
use Rattle.doip_json.specs.Text.{letter_of, escaped, string_of, text_of, item_texts, entry_texts, begins_value, IsOneLine}

abbrev ArePrintable : List ℕ → Type 0
ArePrintable = AllByRecursion (λ b. 32 ≤ b)

each_printable : (xs : List ℕ) → ArePrintable xs → All (λ b. 32 ≤ b) xs
each_printable [] h k d within = absurd (omega arith)
each_printable (x ∷ xs) h zero d within = h.0
each_printable (x ∷ xs) h (suc k) d within = each_printable xs h.1 k d (omega arith)

append_printable : (xs ys : List ℕ) → ArePrintable xs → ArePrintable ys → ArePrintable (xs ++ ys)
append_printable [] ys h g = g
append_printable (x ∷ xs) ys h g = (h.0, append_printable xs ys h.1 g)

-- ---- strings

letter_cases : (x : ℕ) → (letter_of x ≡ 0) ⊎ (32 ≤ letter_of x)
letter_cases x = grind (arith, nat_tests)

letter_printable : (n : ℕ) → (n ≡ 0) ⊎ (32 ≤ n) → nat_lt 0 n ≡ true → 32 ≤ n
letter_printable n (inl none) some = grind (arith, nat_tests)
letter_printable n (inr h) some = h

lt_from : (x : ℕ) → nat_lt x 32 ≡ true → x < 32
lt_from x h = grind (arith, nat_tests)

le_from : (x : ℕ) → nat_lt x 32 ≡ false → 32 ≤ x
le_from x h = grind (arith, nat_tests)

digit_printable : (n : ℕ) → n < 16 → 32 ≤ digit_char n
digit_printable n h = grind (arith, nat_tests)

plain_cases : (x : ℕ) (b : Bool) → nat_lt x 32 ≡ b → ArePrintable (if b then 92 ∷ 117 ∷ 48 ∷ 48 ∷ digit_char (x / 16) ∷ digit_char (x % 16) ∷ [] else x ∷ [])
plain_cases x true is =
    let small : x < 32 = lt_from x is in
    (omega arith, (omega arith, (omega arith, (omega arith, (digit_printable (x / 16) (omega arith), (digit_printable (x % 16) (omega arith), tt))))))
plain_cases x false is = (le_from x is, tt)

escape_cases : (x : ℕ) (b : Bool) → nat_lt 0 (letter_of x) ≡ b
    → ArePrintable (if b then 92 ∷ letter_of x ∷ [] else (if nat_lt x 32 then 92 ∷ 117 ∷ 48 ∷ 48 ∷ digit_char (x / 16) ∷ digit_char (x % 16) ∷ [] else x ∷ []))
escape_cases x true is = (omega arith, (letter_printable (letter_of x) (letter_cases x) is, tt))
escape_cases x false is = plain_cases x (nat_lt x 32) refl

escapes_printable : (s : List ℕ) → ArePrintable (flat_map escaped s)
escapes_printable [] = tt
escapes_printable (x ∷ s) = append_printable (escaped x) (flat_map escaped s) (escape_cases x (nat_lt 0 (letter_of x)) refl) (escapes_printable s)

string_printable : (s : List ℕ) → ArePrintable (string_of s)
string_printable s = (omega arith, append_printable (flat_map escaped s) (34 ∷ []) (escapes_printable s) (omega arith, tt))

-- ---- numbers

digits_printable : (ds : List ℕ) → ((i : ℕ) → i < length ds → 48 ≤ get_or ds i 0) → ArePrintable ds
digits_printable [] h = tt
digits_printable (d ∷ ds) h = let first : 48 ≤ d = h 0 (omega arith) in (omega arith, digits_printable ds (λ i g. h (suc i) (omega arith)))

decimal_printable : (n : ℕ) → n < 2 ^ 64 → ArePrintable (decimal n)
decimal_printable n small = let digits = (decimal_is_IsNumeral n small).0 in digits_printable (decimal n) (λ i h. (digit_at (decimal n) i digits.1 h).0)

whole_printable : (z : ℤ) → IsWhole z → ArePrintable (signed_decimal z)
whole_printable (pos n) h = decimal_printable n h
whole_printable (negsuc n) h = (omega arith, decimal_printable (suc n) (omega arith))

begins_digit : (d : ℕ) → 48 ≤ d → d ≤ 57 → begins_value d ≡ true
begins_digit d low high = grind (arith, nat_tests)

whole_begins : (z : ℤ) → IsWhole z → begins_value (get_or (signed_decimal z) 0 0) ≡ true
whole_begins (pos n) h =
    let digits = (decimal_is_IsNumeral n h).0 in
    let first = digit_at (decimal n) 0 digits.1 digits.0 in
    begins_digit (get_or (decimal n) 0 0) first.0 first.1
whole_begins (negsuc n) h = refl

-- ---- lists and tables

joined_printable : (xs : List (List ℕ)) → AllByRecursion ArePrintable xs → ArePrintable (join_with_byte 44 xs)
joined_printable [] h = tt
joined_printable (x ∷ []) h = h.0
joined_printable (x ∷ y ∷ xs) h = append_printable x (44 ∷ join_with_byte 44 (y ∷ xs)) h.0 (omega arith, joined_printable (y ∷ xs) h.1)

between_printable : (a b : ℕ) → 32 ≤ a → 32 ≤ b → (xs : List (List ℕ)) → AllByRecursion ArePrintable xs → ArePrintable (a ∷ (join_with_byte 44 xs ++ b ∷ []))
between_printable a b opens closes xs h = (opens, append_printable (join_with_byte 44 xs) (b ∷ []) (joined_printable xs h) (closes, tt))

mutual
  text_printable : (v : Value) → IsSound v → ArePrintable (text_of v)
  text_printable null h = (omega arith, (omega arith, (omega arith, (omega arith, tt))))
  text_printable (truth true) h = (omega arith, (omega arith, (omega arith, (omega arith, tt))))
  text_printable (truth false) h = (omega arith, (omega arith, (omega arith, (omega arith, (omega arith, tt)))))
  text_printable (whole z) h = whole_printable z h
  text_printable (text s) h = string_printable s
  text_printable (list vs) h = between_printable 91 93 (omega arith) (omega arith) (item_texts vs) (items_printable vs h)
  text_printable (table es) h = between_printable 123 125 (omega arith) (omega arith) (entry_texts es) (entries_printable es h.1)

  items_printable : (vs : Values) → AreSound vs → AllByRecursion ArePrintable (item_texts vs)
  items_printable no_values h = tt
  items_printable (value v vs) h = (text_printable v h.0, items_printable vs h.1)

  entries_printable : (es : Entries) → EntriesAreSound es → AllByRecursion ArePrintable (entry_texts es)
  entries_printable no_entries h = tt
  entries_printable (entry k v es) h = (append_printable (string_of k) (58 ∷ text_of v) (string_printable k) (omega arith, text_printable v h.1), entries_printable es h.2)

text_begins : (v : Value) → IsSound v → begins_value (get_or (text_of v) 0 0) ≡ true
text_begins null h = refl
text_begins (truth true) h = refl
text_begins (truth false) h = refl
text_begins (whole z) h = whole_begins z h
text_begins (text s) h = refl
text_begins (list vs) h = refl
text_begins (table es) h = refl

pub IsOneLine-text_of : (v : Value) → IsSound v → IsOneLine (text_of v)
IsOneLine-text_of v sound = record { begins = text_begins v sound; printable = each_printable (text_of v) (text_printable v sound) }
