-- How a query is read: what is open and due at a place, and what may follow there. This project's own.
use Rattle.std.specs.Prelude.{◌≡◌, ◌≢◌, ◌≤◌, ◌<◌, ℕ, ◌+◌, ℤ, pos, List, [], ◌∷◌, ◌++◌, length, take, drop, Bool, true}
use Rattle.std.specs.Prelude.{false, not, ◌||◌, ◌==◌, if◌then◌else◌, ltb, Option, Some, None, ◌⊎◌, IsUtf8}
use Rattle.std.specs.Prelude.{slice_index}
use Rattle.doip_json.specs.Sound.{IsWhole}
use Rattle.dobj_field.specs.declared.reach.ScalarTest.{ScalarTest}
use Rattle.dobj_field.specs.Field.{is_white}
use Rattle.query_text.specs.Parts.{all_white}
use Rattle.query_text.specs.declared.nesting.Due.{Due}
use Rattle.query_text.specs.declared.nesting.Due.TheVariants.{Term, Operator}
use Rattle.query_text.specs.declared.nesting.Opened.{Opened}
use Rattle.query_text.specs.declared.nesting.Opened.TheVariants.{Group, Negation}
use Rattle.query_text.specs.declared.nesting.Nesting.{Nesting}
use Rattle.query_text.specs.declared.query.Token.{Token}
use Rattle.query_text.specs.declared.query.Token.TheVariants.{Open, Close, Not, And, Or, Every, Test}
use Rattle.query_text.specs.declared.scanning.Within.{Within}
use Rattle.query_text.specs.declared.scanning.Within.TheVariants.{Word, Quotes}
use Rattle.query_text.specs.declared.scanning.Scanned.{Scanned}
use Rattle.query_text.specs.Spelling.{ends_word, ends_quoted, ended, taking, unescaped, is_digit, all_digits}
use Rattle.query_text.specs.Spelling.{opposite, after_value, follows, Spelt, IsBound, IsNumeral, IsValue, IsToken}
use Rattle.query_text.specs.Faults.{BreaksOff, PastRange, IsFault}
use Rattle.query_text.specs.Stages.{first, Leads, Value, White, Name}

-- after a term: its `NOT`s are closed
abbrev pub term_ended : List Opened → List Opened
term_ended [] = []
term_ended (Negation ∷ opened) = term_ended opened
term_ended (Group ∷ opened) = Group ∷ opened

-- the nearest construct is a parenthesis
abbrev pub begins_group : List Opened → Bool
begins_group [] = false
begins_group (Group ∷ opened) = true
begins_group (Negation ∷ opened) = false

-- the nearest construct is a `NOT`
abbrev pub begins_negation : List Opened → Bool
begins_negation [] = false
begins_negation (Group ∷ opened) = false
begins_negation (Negation ∷ opened) = true

-- one more construct, where fewer than 64 are open
abbrev pub deeper : Opened → List Opened → Option Nesting
deeper one opened = if ltb (length opened) 64 then Some (record { due = Term; opened = one ∷ opened }) else None

-- at the start of a query
abbrev pub start : Nesting
start = record { due = Term; opened = [] }

-- after a token, where it may stand
abbrev pub moves_by : Due → List Opened → Token → Option Nesting
moves_by Term opened Open = deeper Group opened
moves_by Term opened Close = None
moves_by Term opened Not = deeper Negation opened
moves_by Term opened And = None
moves_by Term opened Or = None
moves_by Term opened Every = Some (record { due = Operator; opened = term_ended opened })
moves_by Term opened (Test field test) = Some (record { due = Operator; opened = term_ended opened })
moves_by Operator opened And = Some (record { due = Term; opened = opened })
moves_by Operator opened Or = Some (record { due = Term; opened = opened })
moves_by Operator (Group ∷ opened) Close = Some (record { due = Operator; opened = term_ended opened })
moves_by Operator opened token = None

abbrev pub moves : Nesting → Token → Option Nesting
moves nesting token = moves_by nesting.due nesting.opened token

abbrev pub is_done_by : Due → List Opened → Bool
is_done_by Term opened = false
is_done_by Operator [] = true
is_done_by Operator (one ∷ opened) = false

-- a query may end here
abbrev pub is_done : Nesting → Bool
is_done nesting = is_done_by nesting.due nesting.opened

-- the tokens lead from here to the end of a query
abbrev pub runs : Option Nesting → List Token → Bool
runs None tokens = false
runs (Some nesting) [] = is_done nesting
runs (Some nesting) (token ∷ tokens) = runs (moves nesting token) tokens

-- the rest of a query
abbrev pub Rest : Nesting → Bool → List ℕ → Type 0
Rest nesting strict text = (tokens : List Token) × Spelt strict text tokens × (runs (Some nesting) tokens ≡ true)

-- a text that passes a test on its first byte
abbrev pub Glued : (List ℕ → Bool) → (Bool → List ℕ → Type 0) → Bool → List ℕ → Type 0
Glued touches L strict text = (touches text ≡ true) × L strict text

-- the token is a test
abbrev pub is_a_test : Token → Bool
is_a_test Open = false
is_a_test Close = false
is_a_test Not = false
is_a_test And = false
is_a_test Or = false
is_a_test Every = false
is_a_test (Test field test) = true

-- no `NOT` is open where an operator is due
abbrev pub is_settled_by : Due → List Opened → Type 0
is_settled_by Term opened = Unit {0}
is_settled_by Operator opened = term_ended opened ≡ opened

-- the rest of a query after a value
abbrev pub Next : List Opened → Bool → List ℕ → Type 0
Next opened = Glued after_value (Rest (record { due = Operator; opened = term_ended opened }))

-- a test and then the rest of a query
abbrev pub Tested : List Opened → Bool → List ℕ → Type 0
Tested opened = Name (White (Value (Next opened)))

-- the bytes that end a text of this kind
abbrev pub ends_of : Within → ℕ → Bool
ends_of Word x = ends_word x
ends_of Quotes x = ends_quoted x

-- the next byte is one of the text: the flag says that a `\` takes it
abbrev pub goes_on : Within → Bool → List ℕ → Bool
goes_on within takes [] = false
goes_on within takes (x ∷ rest) = takes || not (ends_of within x)

-- what was scanned is all up to a byte that ends the text
pub record IsScanned (within : Within) (bytes : List ℕ) (scanned : Scanned) : Type 0 where
  pub fits : scanned.len ≤ length bytes
  pub text : scanned.text ≡ unescaped false (take scanned.len bytes)
  pub flag : taking (ends_of within) false (take scanned.len bytes) ≡ Some scanned.taking
  pub stop : ended (ends_of within) (drop scanned.len bytes) ≡ true
  pub open_end : scanned.taking ≡ true → drop scanned.len bytes ≡ []

-- the first byte isn't that of a quoted text or a range
abbrev pub Plain : List ℕ → Type 0
Plain text = (first text ≢ Some 34) × (first text ≢ Some 91)

-- a `*` at the head
abbrev pub starred : List ℕ → Bool
starred [] = false
starred (x ∷ rest) = x == 42

-- the test of a value at the head of a text, and its length
pub record IsValueRead (rest : List ℕ) (test : ScalarTest) (len : ℕ) : Type 0 where
  pub fits : len ≤ length rest
  pub is : IsValue true (take len rest) test
  pub leads : (opened : List Opened) → Leads (Value (Next opened)) (Next opened) (take len rest) (drop len rest)

-- no value goes on so, whatever is open
abbrev pub BreaksValue : List ℕ → ℕ → Type 0
BreaksValue rest place = (opened : List Opened) → IsFault (Value (Next opened)) rest place

-- no white byte at the head
abbrev pub sharp_of : Option ℕ → Bool
sharp_of None = true
sharp_of (Some x) = not (is_white x)

abbrev pub is_sharp : List ℕ → Bool
is_sharp text = sharp_of (first text)

-- no digit at the head
abbrev pub no_digit_of : Option ℕ → Bool
no_digit_of None = true
no_digit_of (Some x) = not (is_digit x)

abbrev pub no_digit : List ℕ → Bool
no_digit text = no_digit_of (first text)

abbrev pub Apart : Option ℤ → List ℕ → Type 0
Apart None rest = Unit {0}
Apart (Some number) rest = no_digit rest ≡ true

-- a bound stands at a place of a text, up to its end
pub record IsBoundRead (bytes : List ℕ) (at : ℕ) (bound : Option ℤ) (end : ℕ) : Type 0 where
  pub len : ℕ
  pub end_is : end ≡ at + len
  pub fits : end ≤ length bytes
  pub is : IsBound true (take len (drop at bytes)) bound
  pub apart : Apart bound (drop len (drop at bytes))

-- no bound begins at the head, or a `-` stands alone there, or a number out of range
abbrev pub NoBound : List ℕ → ℕ → Type 0
NoBound rest k =
    ((k ≡ 0) × (no_digit rest ≡ true) × (first rest ≢ Some 45) × (first rest ≢ Some 42))
    ⊎ ((k ≡ 1) × ((more : List ℕ) × (rest ≡ 45 ∷ more) × (no_digit more ≡ true)))
    ⊎ ((k ≡ 0) × ((numeral more : List ℕ) × (number : ℤ) × (rest ≡ numeral ++ more) × IsNumeral numeral number
    × (IsWhole number → ⊥)))

-- no bound stands at a place of a text
abbrev pub BreaksBound : List ℕ → ℕ → ℕ → Type 0
BreaksBound bytes at place = (k : ℕ) × (place ≡ at + k) × (place ≤ length bytes) × NoBound (drop at bytes) k

-- white bytes stand at a place of a text, up to where they end
pub record IsWhiteRead (bytes : List ℕ) (at end : ℕ) : Type 0 where
  pub len : ℕ
  pub end_is : end ≡ at + len
  pub fits : end ≤ length bytes
  pub white : all_white (take len (drop at bytes)) ≡ true
  pub sharp : is_sharp (drop len (drop at bytes)) ≡ true

-- how far a text has a word at a place
pub record Shared (bytes : List ℕ) (word : List ℕ) (n : ℕ) : Type 0 where
  pub text : n ≤ length bytes
  pub word_fits : n ≤ length word
  pub same : take n bytes ≡ take n word
  pub other : n < length bytes → n < length word → slice_index bytes n ≡ slice_index word n → ⊥

-- the word stands at a place of a text
pub record IsWordRead (bytes : List ℕ) (at : ℕ) (word : List ℕ) (end : ℕ) : Type 0 where
  pub end_is : end ≡ at + length word
  pub fits : end ≤ length bytes
  pub is : take (length word) (drop at bytes) ≡ word

-- the word doesn't stand at a place of a text
abbrev pub BreaksWord : List ℕ → ℕ → List ℕ → ℕ → Type 0
BreaksWord bytes at word place = (k : ℕ) × (place ≡ at + k) × (place ≤ length bytes) × (k < length word)
    × Shared (drop at bytes) word k

-- digits, with a `-` before them or not
abbrev pub signed : Bool → List ℕ → List ℕ
signed true digits = 45 ∷ digits
signed false digits = digits

abbrev pub signed_number : Bool → ℕ → ℤ
signed_number true n = opposite n
signed_number false n = pos n

-- how many digits stand at the head
pub record IsDigitRun (rest : List ℕ) (n : ℕ) : Type 0 where
  pub fits : n ≤ length rest
  pub all : all_digits (take n rest) ≡ true
  pub blunt : no_digit (drop n rest) ≡ true

-- the bytes of a sign
abbrev pub sign_len : Bool → ℕ
sign_len true = 1
sign_len false = 0

-- a `-` stands at the place, or neither that nor a `*`
abbrev pub Headed : List ℕ → ℕ → Bool → Type 0
Headed bytes at true = first (drop at bytes) ≡ Some 45
Headed bytes at false = (first (drop at bytes) ≢ Some 45) × (first (drop at bytes) ≢ Some 42)

-- the test at the head of a text, and its length
pub record IsTestRead (rest : List ℕ) (token : Token) (len : ℕ) : Type 0 where
  pub some : 0 < len
  pub fits : len ≤ length rest
  pub is : IsToken true (take len rest) token
  pub is_test : is_a_test token ≡ true
  pub follows_it : after_value (drop len rest) ≡ true
  pub leads : (opened : List Opened) → Leads (Tested opened) (Next opened) (take len rest) (drop len rest)

-- a fault, which is none of a number if it is at the head
abbrev pub BreaksThere : (Bool → List ℕ → Type 0) → List ℕ → ℕ → Type 0
BreaksThere L rest place = BreaksOff L rest place ⊎ ((0 < place) × PastRange L rest place)

-- no test goes on so, whatever is open
abbrev pub BreaksTest : List ℕ → ℕ → Type 0
BreaksTest rest place = (opened : List Opened) → BreaksThere (Tested opened) rest place

-- a token that its word alone writes stands at the head
pub record IsKeyword (rest word : List ℕ) (token : Token) : Type 0 where
  pub fits : length word ≤ length rest
  pub is : take (length word) rest ≡ word
  pub follows_it : follows token (drop (length word) rest) ≡ true

-- it doesn't stand there, or what follows it may not
abbrev pub BreaksKeyword : List ℕ → List ℕ → Token → ℕ → Type 0
BreaksKeyword rest word token place =
    ((place < length word) × Shared rest word place)
    ⊎ ((place ≡ length word) × (place ≤ length rest) × (take place rest ≡ word)
    × (follows token (drop place rest) ≡ false))

-- only a term's end leaves an operator due
abbrev pub IsSettled : Nesting → Type 0
IsSettled nesting = is_settled_by nesting.due nesting.opened

-- the token at the head of a text, and its length
pub record IsTokenRead (nesting : Nesting) (rest : List ℕ) (token : Token) (len : ℕ) : Type 0 where
  pub some : 0 < len
  pub fits : len ≤ length rest
  pub is : IsToken true (take len rest) token
  pub follows_it : follows token (drop len rest) ≡ true
  pub next : Nesting
  pub moves_is : moves nesting token ≡ Some next
  pub settled : IsSettled next
  pub leads : Leads (Rest nesting) (Glued (follows token) (Rest next)) (take len rest) (drop len rest)
  pub utf8 : IsUtf8 (drop len rest)
