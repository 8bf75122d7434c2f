-- How the tokens of a query are written. This project's own.
use Rattle.std.specs.Prelude.{◌≡◌, ◌≢◌, ℕ, zero, suc, ◌+◌, ◌*◌, ◌-◌, ℤ, pos, negsuc, List, [], ◌∷◌, ◌++◌, Bool, true}
use Rattle.std.specs.Prelude.{false, ◌&&◌, ◌||◌, ◌==◌, leb, if◌then◌else◌, Option, Some, None, ◌⊎◌, codes}
use Rattle.doip_json.specs.Sound.{IsWhole}
use Rattle.dobj_field.specs.Field.{is_white, IsField}
use Rattle.dobj_field.specs.declared.reach.ScalarTest.{ScalarTest}
use Rattle.dobj_field.specs.declared.reach.ScalarTest.TheVariants.{Equals, Begins, Between}
use Rattle.query_text.specs.declared.query.Token.{Token}
use Rattle.query_text.specs.declared.query.Token.TheVariants.{Open, Close, Not, And, Or, Every, Test}
use Rattle.query_text.specs.Parts.{all_white}
use Rattle.query_text.specs.Query.{Disjunction, IsQuery}

-- the bytes that stand in a word only where a `\` takes them: white, `(`, `)`, `"` and `*`
abbrev pub ends_word : ℕ → Bool
ends_word x = is_white x || (x == 40) || (x == 41) || (x == 34) || (x == 42)

-- the byte that stands in a quoted text only where a `\` takes it: `"`
abbrev pub ends_quoted : ℕ → Bool
ends_quoted x = x == 34

-- Whether the last of these bytes is a `\` that takes what follows; none where a byte stands there that only a `\` may
-- take. The first flag says whether the first byte is taken.
abbrev pub taking : (ℕ → Bool) → Bool → List ℕ → Option Bool
taking ends takes [] = Some takes
taking ends true (x ∷ rest) = taking ends false rest
taking ends false (x ∷ rest) = if x == 92 then taking ends true rest else if ends x then None else taking ends false
    rest

-- the text that bytes spell: a `\` takes the byte after it as it is
abbrev pub unescaped : Bool → List ℕ → List ℕ
unescaped takes [] = []
unescaped true (x ∷ rest) = x ∷ unescaped false rest
unescaped false (x ∷ rest) = if x == 92 then unescaped true rest else x ∷ unescaped false rest

-- nothing, or a byte that ends the text and what follows
abbrev pub ended : (ℕ → Bool) → List ℕ → Bool
ended ends [] = true
ended ends (x ∷ rest) = ends x

-- the bytes spell the text, and none of them ends it
abbrev pub IsText : (ℕ → Bool) → List ℕ → List ℕ → Type 0
IsText ends bytes text = (taking ends false bytes ≡ Some false) × (text ≡ unescaped false bytes)

-- at least one byte, the first no `[`
abbrev pub begins_word : List ℕ → Bool
begins_word [] = false
begins_word (x ∷ rest) = if x == 91 then false else true

-- a word
abbrev pub IsWord : List ℕ → List ℕ → Type 0
IsWord bytes text = (begins_word bytes ≡ true) × IsText ends_word bytes text

-- a text in quotes
abbrev pub IsQuoted : List ℕ → List ℕ → Type 0
IsQuoted bytes text = (inside : List ℕ) × (bytes ≡ 34 ∷ (inside ++ 34 ∷ [])) × IsText ends_quoted inside text

-- a `*` after a word or alone
abbrev pub IsPrefix : List ℕ → List ℕ → Type 0
IsPrefix bytes text = (start : List ℕ) × (bytes ≡ start ++ 42 ∷ []) × (IsWord start text ⊎ ((start ≡ []) × (text ≡ [])))

-- an ASCII digit
abbrev pub is_digit : ℕ → Bool
is_digit x = leb 48 x && leb x 57

abbrev pub all_digits : List ℕ → Bool
all_digits [] = true
all_digits (x ∷ rest) = is_digit x && all_digits rest

-- the number of decimal digits after those of n
abbrev pub number_after : ℕ → List ℕ → ℕ
number_after n [] = n
number_after n (x ∷ rest) = number_after (10 * n + (x - 48)) rest

-- the number below zero
abbrev pub opposite : ℕ → ℤ
opposite zero = pos 0
opposite (suc n) = negsuc n

-- at least one digit; zeros may lead
abbrev pub AreDigits : List ℕ → Type 0
AreDigits digits = (digits ≢ []) × (all_digits digits ≡ true)

-- decimal digits, and optionally a `-` before them
abbrev pub IsNumeral : List ℕ → ℤ → Type 0
IsNumeral bytes number = (digits : List ℕ) × AreDigits digits
    × (((bytes ≡ digits) × (number ≡ pos (number_after 0 digits)))
    ⊎ ((bytes ≡ 45 ∷ digits) × (number ≡ opposite (number_after 0 digits))))

-- In the strict grammar numbers are those of JSON values, from -2^63 to 2^64 - 1; in the other they are any.
abbrev pub Within : Bool → ℤ → Type 0
Within true number = IsWhole number
Within false number = Unit {0}

-- a bound of a range: `*` is open
abbrev pub IsBound : Bool → List ℕ → Option ℤ → Type 0
IsBound strict bytes None = bytes ≡ 42 ∷ []
IsBound strict bytes (Some number) = IsNumeral bytes number × Within strict number

-- white bytes, at least one
abbrev pub IsGap : List ℕ → Type 0
IsGap bytes = (bytes ≢ []) × (all_white bytes ≡ true)

-- a range: `[`, its low bound, `TO`, its high bound, `]`
pub record IsRange (strict : Bool) (bytes : List ℕ) (low high : Option ℤ) : Type 0 where
  pub before : List ℕ
  pub first : List ℕ
  pub gap : List ℕ
  pub later_gap : List ℕ
  pub second : List ℕ
  pub after : List ℕ
  pub are : bytes ≡ 91 ∷ (before ++ (first ++ (gap ++ 84 ∷ 79 ∷ (later_gap ++ (second ++ (after ++ 93 ∷ []))))))
  pub before_white : all_white before ≡ true
  pub low_is : IsBound strict first low
  pub gap_is : IsGap gap
  pub later_gap_is : IsGap later_gap
  pub high_is : IsBound strict second high
  pub after_white : all_white after ≡ true

-- a value, and the test that it stands for
abbrev pub IsValue : Bool → List ℕ → ScalarTest → Type 0
IsValue strict bytes (Equals text) = IsWord bytes text ⊎ IsQuoted bytes text
IsValue strict bytes (Begins text) = IsPrefix bytes text
IsValue strict bytes (Between low high) = IsRange strict bytes low high

-- a token: a test is a field, `:` and a value, with white bytes only after the `:`
abbrev pub IsToken : Bool → List ℕ → Token → Type 0
IsToken strict bytes Open = bytes ≡ codes "("
IsToken strict bytes Close = bytes ≡ codes ")"
IsToken strict bytes Not = bytes ≡ codes "NOT"
IsToken strict bytes And = bytes ≡ codes "AND"
IsToken strict bytes Or = bytes ≡ codes "OR"
IsToken strict bytes Every = bytes ≡ codes "*:*"
IsToken strict bytes (Test field test) =
    (name white value : List ℕ) × (bytes ≡ name ++ 58 ∷ (white ++ value)) × IsField name field
    × (all_white white ≡ true) × IsValue strict value test

-- after a word operator comes a white byte or `(`
abbrev pub after_operator : List ℕ → Bool
after_operator [] = false
after_operator (x ∷ rest) = is_white x || (x == 40)

-- after a value comes a white byte, `)` or the end
abbrev pub after_value : List ℕ → Bool
after_value [] = true
after_value (x ∷ rest) = is_white x || (x == 41)

-- what may come directly after a token
abbrev pub follows : Token → List ℕ → Bool
follows Open rest = true
follows Close rest = true
follows Not rest = after_operator rest
follows And rest = after_operator rest
follows Or rest = after_operator rest
follows Every rest = after_value rest
follows (Test field test) rest = after_value rest

-- the text is written with these tokens, white bytes between them as one likes
abbrev pub Spelt : Bool → List ℕ → List Token → Type 0
Spelt strict text [] = all_white text ≡ true
Spelt strict text (token ∷ tokens) =
    (white spelling rest : List ℕ) × (text ≡ white ++ (spelling ++ rest)) × (all_white white ≡ true)
    × IsToken strict spelling token × (follows token rest ≡ true) × Spelt strict rest tokens

-- the text is a query with these tokens
abbrev pub IsQueryText : Bool → List ℕ → List Token → Type 0
IsQueryText strict text tokens = Spelt strict text tokens × ((query : Disjunction) × IsQuery tokens query)

-- the text is a query
abbrev pub AQuery : Bool → List ℕ → Type 0
AQuery strict text = (tokens : List Token) × IsQueryText strict text tokens
