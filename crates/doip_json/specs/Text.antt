-- The canonical text of a value (RFC 8259; compact, with one spelling for each value, is this project's own).
use Rattle.std.specs.Prelude.{ℕ, ◌≤◌, Bool, IsTrue, All, slice_index, ◌/◌, ◌%◌, List, [], ◌∷◌, ◌++◌, true, false, ◌||◌, ◌==◌, nat_lt, if◌then◌else◌, flat_map, codes}
use Rattle.std.specs.Char.{digit_char, is_ascii_digit}
use Rattle.std.specs.Fmt.{signed_decimal}
use Rattle.std.specs.List.{join_with_byte}
use Rattle.doip_json.specs.Value.{Value, null, truth, whole, text, list, table, Values, no_values, value, Entries, no_entries, entry}

-- the letter after the backslash for a byte that has one, and 0 for any other
abbrev pub letter_of : ℕ → ℕ
letter_of x =
    if (x == 34) || (x == 92) then x
    else (if x == 8 then 98 else (if x == 12 then 102 else (if x == 10 then 110
    else (if x == 13 then 114 else (if x == 9 then 116 else 0)))))

-- What is written in a string for a byte: `"` and `\` after a backslash, \b \f \n \r \t, \u00 and two digits for the
-- others below 0x20, and any other byte itself.
abbrev pub escaped : ℕ → List ℕ
escaped x =
    if nat_lt 0 (letter_of x) then 92 ∷ letter_of x ∷ []
    else (if nat_lt x 32 then 92 ∷ 117 ∷ 48 ∷ 48 ∷ digit_char (x / 16) ∷ digit_char (x % 16) ∷ [] else x ∷ [])

-- a string in quotes
abbrev pub string_of : List ℕ → List ℕ
string_of s = 34 ∷ (flat_map escaped s ++ 34 ∷ [])

-- Items and entries with a comma between each two, and no space.
abbrev mutual
  pub text_of : Value → List ℕ
  text_of null = codes "null"
  text_of (truth true) = codes "true"
  text_of (truth false) = codes "false"
  text_of (whole z) = signed_decimal z
  text_of (text s) = string_of s
  text_of (list vs) = 91 ∷ (join_with_byte 44 (item_texts vs) ++ 93 ∷ [])
  text_of (table es) = 123 ∷ (join_with_byte 44 (entry_texts es) ++ 125 ∷ [])

  -- each item's text
  pub item_texts : Values → List (List ℕ)
  item_texts no_values = []
  item_texts (value v vs) = text_of v ∷ item_texts vs

  -- each entry's key, a colon, and its value's text
  pub entry_texts : Entries → List (List ℕ)
  entry_texts no_entries = []
  entry_texts (entry k v es) = (string_of k ++ 58 ∷ text_of v) ∷ entry_texts es

-- the bytes that a value's text may begin with
abbrev pub begins_value : ℕ → Bool
begins_value x =
    is_ascii_digit x || (x == 34) || (x == 45) || (x == 91) || (x == 102) || (x == 110) || (x == 116) || (x == 123)

-- a text of one line: it begins as a value does, and has no byte below 0x20
pub record IsOneLine (bytes : List ℕ) : Type 0 where
  pub begins : IsTrue (begins_value (slice_index bytes 0))
  pub printable : All (λ b. 32 ≤ b) bytes
