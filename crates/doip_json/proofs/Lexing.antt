-- A text is no shorter than its lexemes, with each string in its canonical escapes.
use Rattle.std.proofs.Common.{◌≡◌, ℕ, zero, suc, ◌+◌, ◌<◌, ◌≤◌, List, [], ◌∷◌, ◌++◌, length, get_or, Bool, true, false, cond, ◌==◌, ◌&&◌, ◌||◌, nat_lt, ◌⊎◌, inl, inr, Option, Some, None, option_and_then, refl, sym, ap, ◌∙◌, subst, arith, ne_eqb, eqb-true, append-nil, encode_utf8}
use Rattle.std.specs.Prelude.{⊤}
use Rattle.std.proofs.lemmas.Bool.{false≢true, and_parts}
use Rattle.std.proofs.lemmas.Bool.Decides.{nat_tests}
use Rattle.std.proofs.lemmas.List.{length-append}
use Rattle.std.proofs.lemmas.Str.{inside_one, encode_ascii, length-encode, len_utf8_bounds}
use Rattle.std.specs.Char.{is_digit}
use Rattle.json.specs.Text.{code_unit, short_escape, is_high_surrogate, is_low_surrogate, surrogate_pair, Within, plain, after_backslash, after_u, after_high, prepend, content}
use Rattle.json.specs.Word.{is_operator, is_space}
use Rattle.json.specs.Lex.{Lexeme, token, comma, colon, Class, quote, backslash, operator, space, other, class, operator_lexeme, string_token, Mode, between, in_word, in_string, in_escape, lex_byte, lex, tokens}
use Rattle.json.specs.Token.{begin_object, end_object, begin_array, end_array}
use Rattle.json.specs.Print.{print, escape, escape_byte, quoted}
use Rattle.doip_json.proofs.Lexemes.{lexeme_size, lexemes_size, fresh_fits}
use Rattle.doip_json.proofs.Words.{delimits, run, run_on, run_stop, run_step, word_size}

-- the lexemes of a text
abbrev size : Mode → List ℕ → ℕ
size m xs = lexemes_size (lex m xs)

-- ---- escapes

escape-append : (xs ys : List ℕ) → length (escape (xs ++ ys)) ≡ length (escape xs) + length (escape ys)
escape-append [] ys = omega arith
escape-append (x ∷ xs) ys =
    omega (arith, escape-append xs ys, length-append (escape_byte x) (escape (xs ++ ys)), length-append (escape_byte x) (escape xs))

escape_one : (x : ℕ) → length (escape (x ∷ [])) ≡ length (escape_byte x)
escape_one x = omega (arith, length-append (escape_byte x) [])

escape_plain : (x : ℕ) → (x == 34) ≡ false → (x == 92) ≡ false → nat_lt x 32 ≡ false → length (escape_byte x) ≡ 1
unfolding escape_byte
escape_plain x q b low =
    let high : 32 ≤ x = grind (arith, nat_tests) in
    rw (q, b, ne_eqb x 8 (λ e. omega arith), ne_eqb x 12 (λ e. omega arith), ne_eqb x 10 (λ e. omega arith), ne_eqb x 13 (λ e. omega arith), ne_eqb x 9 (λ e. omega arith)) (rw low refl)

escape_most : (x : ℕ) → length (escape_byte x) ≤ 6
unfolding escape_byte
escape_most x = grind arith

high_plain : (x : ℕ) → 128 ≤ x → length (escape_byte x) ≡ 1
high_plain x h = escape_plain x (ne_eqb x 34 (λ e. omega arith)) (ne_eqb x 92 (λ e. omega arith)) (grind (arith, nat_tests))

escape_high : (xs : List ℕ) → ((k : ℕ) → k < length xs → 128 ≤ get_or xs k 0) → length (escape xs) ≡ length xs
escape_high [] h = omega arith
escape_high (x ∷ xs) h =
    omega (arith, length-append (escape_byte x) (escape xs), high_plain x (h 0 (omega arith)), escape_high xs (λ k w. h (suc k) (omega arith)))

at_least : (u k : ℕ) → k < length (encode_utf8 u) → 128 ≤ u → 128 ≤ get_or (encode_utf8 u) k 0
at_least u k within high = at (nat_lt (get_or (encode_utf8 u) k 0) 128) refl
  where
    at : (b : Bool) → nat_lt (get_or (encode_utf8 u) k 0) 128 ≡ b → 128 ≤ get_or (encode_utf8 u) k 0
    at true e =
        let low : get_or (encode_utf8 u) k 0 < 128 = grind (arith, nat_tests) in
        let same : u ≡ get_or (encode_utf8 u) k 0 = inside_one u [] (encode_utf8 u) k (sym (append-nil (encode_utf8 u))) within low in
        omega arith
    at false e = grind (arith, nat_tests)

-- a character's bytes take no more than the six of its escape
escape_char : (u : ℕ) → length (escape (encode_utf8 u)) ≤ 6
escape_char u = at (nat_lt u 128) refl
  where
    at : (b : Bool) → nat_lt u 128 ≡ b → length (escape (encode_utf8 u)) ≤ 6
    at true e =
        let low : u < 128 = grind (arith, nat_tests) in
        omega (arith, ap (λ bs. length (escape bs)) (encode_ascii u low), escape_one u, escape_most u)
    at false e =
        let high : 128 ≤ u = grind (arith, nat_tests) in
        let bytes : (k : ℕ) → k < length (encode_utf8 u) → 128 ≤ get_or (encode_utf8 u) k 0 = λ k w. at_least u k w high in
        omega (arith, escape_high (encode_utf8 u) bytes, length-encode u, (len_utf8_bounds u).1)

abbrev AreShort : Option ℕ → Type 0
AreShort None = ⊤
AreShort (Some c) = length (escape_byte c) ≤ 2

pick : (b : Bool) (x y : Option ℕ) → (b ≡ true → AreShort x) → AreShort y → AreShort (cond b x y)
pick true x y p q = p refl
pick false x y p q = q

same_byte : (x : ℕ) (a b c : Bool) → (a ≡ true → x ≡ 34) → (b ≡ true → x ≡ 92) → (c ≡ true → x ≡ 47) → (a || b || c) ≡ true → length (escape_byte x) ≤ 2
unfolding escape_byte
same_byte x true b c p q r e = rw (p refl) (omega arith)
same_byte x false true c p q r e = rw (q refl) (omega arith)
same_byte x false false true p q r e = rw (r refl) (omega arith)
same_byte x false false false p q r e = absurd (false≢true e)

short_sizes : (x : ℕ) → AreShort (short_escape x)
unfolding short_escape escape_byte
short_sizes x =
    pick ((x == 34) || (x == 92) || (x == 47)) (Some x) _ (same_byte x (x == 34) (x == 92) (x == 47) (eqb-true x 34) (eqb-true x 92) (eqb-true x 47))
    (pick (x == 98) (Some 8) _ (λ e. omega arith) (pick (x == 102) (Some 12) _ (λ e. omega arith) (pick (x == 110) (Some 10) _ (λ e. omega arith)
    (pick (x == 114) (Some 13) _ (λ e. omega arith) (pick (x == 116) (Some 9) None (λ e. omega arith) tt)))))

-- ---- strings

abbrev Closes : ℕ → ℕ → Option (List ℕ) → Type 0
Closes used room None = ⊤
Closes used room (Some s) = length (escape s) + 1 + used ≤ room

either : (used room : ℕ) (b : Bool) (x y : Option (List ℕ)) → (b ≡ true → Closes used room x) → (b ≡ false → Closes used room y) → Closes used room (cond b x y)
either used room true x y p q = p refl
either used room false x y p q = q refl

closes : (used room used' room' : ℕ) (o : Option (List ℕ)) → Closes used room o → used' + room ≤ used + room' → Closes used' room' o
closes used room used' room' None h le = tt
closes used room used' room' (Some s) h le = omega arith

longer : (used room used' room' : ℕ) (a : List ℕ) (o : Option (List ℕ)) → Closes used room o → length (escape a) + used' + room ≤ used + room' → Closes used' room' (prepend a o)
longer used room used' room' a None h le = tt
longer used room used' room' a (Some s) h le = omega (arith, escape-append a s)

found : (used room : ℕ) (f : ℕ → Option (List ℕ)) (o : Option ℕ) → ((u : ℕ) → o ≡ Some u → Closes used room (f u)) → Closes used room (option_and_then f o)
found used room f None h = tt
found used room f (Some u) h = h u refl

passes : (o s : Bool) (k : Mode → List Lexeme) (x : ℕ) (xs : List ℕ) → lexemes_size (lex_byte in_string (cond o operator (cond s space other)) x xs k) ≡ lexemes_size (k in_string)
passes true s k x xs = refl
passes false true k x xs = refl
passes false false k x xs = refl

in_string_plain : (x : ℕ) (xs : List ℕ) → (x == 34) ≡ false → (x == 92) ≡ false → size in_string (x ∷ xs) ≡ size in_string xs
unfolding lex
in_string_plain x xs q b =
    ap (λ t. lexemes_size (lex_byte in_string (cond t quote (cond (x == 92) backslash (cond (is_operator x) operator (cond (is_space x) space other)))) x xs (λ n. lex n xs))) q
    ∙ ap (λ t. lexemes_size (lex_byte in_string (cond t backslash (cond (is_operator x) operator (cond (is_space x) space other))) x xs (λ n. lex n xs))) b
    ∙ passes (is_operator x) (is_space x) (λ n. lex n xs) x xs

in_string_quote : (x : ℕ) (xs : List ℕ) → (x == 34) ≡ true → size in_string (x ∷ xs) ≡ size between xs
unfolding lex
in_string_quote x xs q = ap (λ y. size in_string (y ∷ xs)) (eqb-true x 34 q)

in_string_backslash : (x : ℕ) (xs : List ℕ) → (x == 92) ≡ true → size in_string (x ∷ xs) ≡ size in_escape xs
unfolding lex
in_string_backslash x xs b = ap (λ y. size in_string (y ∷ xs)) (eqb-true x 92 b)

in_escape_any : (x : ℕ) (xs : List ℕ) → size in_escape (x ∷ xs) ≡ size in_string xs
unfolding lex
in_escape_any x xs = refl

no_digit : (c x : ℕ) → is_digit c 16 ≡ false → is_digit x 16 ≡ true → (x == c) ≡ false
no_digit c x e h = ne_eqb x c (λ same. false≢true (sym e ∙ ap (λ y. is_digit y 16) (sym same) ∙ h))

hex : (x : ℕ) (xs : List ℕ) → is_digit x 16 ≡ true → size in_string (x ∷ xs) ≡ size in_string xs
hex x xs h = in_string_plain x xs (no_digit 34 x refl h) (no_digit 92 x refl h)

all_digits : (b : Bool) (v u : ℕ) → cond b (Some v) None ≡ Some u → b ≡ true
all_digits true v u e = refl
all_digits false v u e = absurd (cc)

four : (a b c d u : ℕ) (xs : List ℕ) → code_unit a b c d ≡ Some u → size in_string (a ∷ b ∷ c ∷ d ∷ xs) ≡ size in_string xs
unfolding code_unit
four a b c d u xs e =
    let p = and_parts (is_digit a 16 && is_digit b 16 && is_digit c 16) (is_digit d 16) (all_digits _ _ u e) in
    let q = and_parts (is_digit a 16 && is_digit b 16) (is_digit c 16) p.0 in
    let r = and_parts (is_digit a 16) (is_digit b 16) q.0 in
    hex a (b ∷ c ∷ d ∷ xs) r.0 ∙ hex b (c ∷ d ∷ xs) r.1 ∙ hex c (d ∷ xs) q.1 ∙ hex d xs p.1

-- the state of the lexer, and the bytes of an escape that have been read
abbrev mode : Within → Mode
mode plain = in_string
mode after_backslash = in_escape
mode after_u = in_string
mode (after_high h) = in_string

abbrev read_before : Within → ℕ
read_before plain = 0
read_before after_backslash = 1
read_before after_u = 2
read_before (after_high h) = 6

string_fits : (n : ℕ) → ((ys : List ℕ) → length ys ≤ n → size between ys ≤ length ys) → (w : Within) (xs : List ℕ) → length xs ≤ n → Closes (size (mode w) xs) (read_before w + length xs) (content w xs)
unfolding content
string_fits n g plain [] le = tt
string_fits n g plain (x ∷ xs) le =
    let used = size in_string (x ∷ xs) in
    let room = 0 + length (x ∷ xs) in
    either used room (x == 34) _ _ (λ q. omega (arith, in_string_quote x xs q, g xs (omega arith)))
    (λ q. either used room (x == 92) _ _ (λ b. closes _ _ used room _ (string_fits n g after_backslash xs (omega arith)) (omega (arith, in_string_backslash x xs b)))
    (λ b. either used room (nat_lt x 32) _ _ (λ l. tt)
    (λ l. longer _ _ used room (x ∷ []) _ (string_fits n g plain xs (omega arith)) (omega (arith, in_string_plain x xs q b, escape_one x, escape_plain x q b l)))))
string_fits n g after_backslash [] le = tt
string_fits n g after_backslash (x ∷ xs) le =
    let used = size in_escape (x ∷ xs) in
    let room = 1 + length (x ∷ xs) in
    either used room (x == 117) _ _ (λ u. closes _ _ used room _ (string_fits n g after_u xs (omega arith)) (omega (arith, in_escape_any x xs)))
    (λ u. found used room _ (short_escape x) (λ c e. longer _ _ used room (c ∷ []) _ (string_fits n g plain xs (omega arith))
    (omega (arith, in_escape_any x xs, escape_one c, subst AreShort e (short_sizes x)))))
string_fits n g after_u [] le = tt
string_fits n g after_u (a ∷ []) le = tt
string_fits n g after_u (a ∷ b ∷ []) le = tt
string_fits n g after_u (a ∷ b ∷ c ∷ []) le = tt
string_fits n g after_u (a ∷ b ∷ c ∷ d ∷ xs) le =
    let used = size in_string (a ∷ b ∷ c ∷ d ∷ xs) in
    let room = 2 + length (a ∷ b ∷ c ∷ d ∷ xs) in
    found used room _ (code_unit a b c d) (λ u e. either used room (is_high_surrogate u) _ _
    (λ h. closes _ _ used room _ (string_fits n g (after_high u) xs (omega arith)) (omega (arith, four a b c d u xs e)))
    (λ h. either used room (is_low_surrogate u) _ _ (λ l. tt)
    (λ l. longer _ _ used room (encode_utf8 u) _ (string_fits n g plain xs (omega arith)) (omega (arith, four a b c d u xs e, escape_char u)))))
string_fits n g (after_high h) [] le = tt
string_fits n g (after_high h) (s ∷ []) le = tt
string_fits n g (after_high h) (s ∷ u ∷ []) le = tt
string_fits n g (after_high h) (s ∷ u ∷ a ∷ []) le = tt
string_fits n g (after_high h) (s ∷ u ∷ a ∷ b ∷ []) le = tt
string_fits n g (after_high h) (s ∷ u ∷ a ∷ b ∷ c ∷ []) le = tt
string_fits n g (after_high h) (s ∷ u ∷ a ∷ b ∷ c ∷ d ∷ xs) le =
    let used = size in_string (s ∷ u ∷ a ∷ b ∷ c ∷ d ∷ xs) in
    let room = 6 + length (s ∷ u ∷ a ∷ b ∷ c ∷ d ∷ xs) in
    either used room ((s == 92) && (u == 117)) _ None
    (λ t. found used room _ (code_unit a b c d) (λ l e. either used room (is_low_surrogate l) _ None
    (λ y. longer _ _ used room (encode_utf8 (surrogate_pair h l)) _ (string_fits n g plain xs (omega arith))
    (omega (arith, in_string_backslash s (u ∷ a ∷ b ∷ c ∷ d ∷ xs) (and_parts _ _ t).0, in_escape_any u (a ∷ b ∷ c ∷ d ∷ xs), four a b c d l xs e, escape_char (surrogate_pair h l))))
    (λ y. tt))) (λ t. tt)

-- ---- all lexemes

tests_stop : (q b o s : Bool) (c : Class) → cond q quote (cond b backslash (cond o operator (cond s space other))) ≡ c → (c ≡ operator) ⊎ (c ≡ space) → (o || s) ≡ true
tests_stop true b o s c e h = elim h [
  | inl is ↦ let no : quote ≡ operator = e ∙ is in absurd (cc)
  | inr is ↦ let no : quote ≡ space = e ∙ is in absurd (cc)
]
tests_stop false true o s c e h = elim h [
  | inl is ↦ let no : backslash ≡ operator = e ∙ is in absurd (cc)
  | inr is ↦ let no : backslash ≡ space = e ∙ is in absurd (cc)
]
tests_stop false false true s c e h = refl
tests_stop false false false true c e h = refl
tests_stop false false false false c e h = elim h [
  | inl is ↦ let no : other ≡ operator = e ∙ is in absurd (cc)
  | inr is ↦ let no : other ≡ space = e ∙ is in absurd (cc)
]

tests_other : (q b o s : Bool) → cond q quote (cond b backslash (cond o operator (cond s space other))) ≡ other → (o || s) ≡ false
tests_other true b o s e = absurd (cc)
tests_other false true o s e = absurd (cc)
tests_other false false true s e = absurd (cc)
tests_other false false false true e = absurd (cc)
tests_other false false false false e = refl

stops : (x : ℕ) (c : Class) → class x ≡ c → (c ≡ operator) ⊎ (c ≡ space) → delimits x ≡ true
stops x c e h = tests_stop (x == 34) (x == 92) (is_operator x) (is_space x) c e h

one_size : (b : Bool) (l m : Lexeme) → lexeme_size l ≡ 1 → lexeme_size m ≡ 1 → lexeme_size (cond b l m) ≡ 1
one_size true l m p q = p
one_size false l m p q = q

operator_size : (x : ℕ) → lexeme_size (operator_lexeme x) ≡ 1
operator_size x =
    one_size (x == 123) (token begin_object) _ refl (one_size (x == 125) (token end_object) _ refl (one_size (x == 91) (token begin_array) _ refl
    (one_size (x == 93) (token end_array) _ refl (one_size (x == 44) comma colon refl refl))))

word_rest : (n : ℕ) → ((ys : List ℕ) → length ys ≤ n → size between ys ≤ length ys) → (xs : List ℕ) → length xs ≤ suc n → size in_word xs + run xs ≤ length xs
unfolding lex
word_rest n g [] le = omega arith
word_rest n g (x ∷ xs) le = at (class x) refl (word_rest n g xs (omega arith))
  where
    at : (c : Class) → class x ≡ c → size in_word xs + run xs ≤ length xs → lexemes_size (lex_byte in_word c x xs (λ next. lex next xs)) + run (x ∷ xs) ≤ suc (length xs)
    at quote e ih = omega (arith, run_step x xs)
    at backslash e ih = omega (arith, run_step x xs)
    at operator e ih = omega (arith, operator_size x, run_stop x xs (stops x operator e (inl refl)), g xs (omega arith))
    at space e ih = omega (arith, run_stop x xs (stops x space e (inr refl)), g xs (omega arith))
    at other e ih = omega (arith, run_step x xs)

quoted_size : (s : List ℕ) → length (quoted s) ≡ length (escape s) + 2
quoted_size s = omega (arith, length-append (escape s) (34 ∷ []))

string_size : (k : ℕ) (xs : List ℕ) (o : Option (List ℕ)) → k ≤ length xs → Closes k (length xs) o → lexeme_size (token (string_token o)) + k ≤ suc (length xs)
string_size k xs None le h = omega arith
string_size k xs (Some s) le h = omega (arith, quoted_size s)

text_fits : (n : ℕ) (m : Mode) (xs : List ℕ) → length xs ≤ n → size m xs ≤ length xs
unfolding lex
text_fits n m [] le = omega arith
text_fits zero m (x ∷ xs) le = absurd (omega arith)
text_fits (suc n) m (x ∷ xs) le = at m (class x) refl (λ k. text_fits n k xs (omega arith)) (λ ys h. text_fits n between ys h)
  where
    at : (k : Mode) (c : Class) → class x ≡ c → ((next : Mode) → size next xs ≤ length xs) → ((ys : List ℕ) → length ys ≤ n → size between ys ≤ length ys)
        → lexemes_size (lex_byte k c x xs (λ next. lex next xs)) ≤ suc (length xs)
    at between quote e f g =
        string_size (size in_string xs) xs (content plain xs) (f in_string) (closes _ _ (size in_string xs) (length xs) _ (string_fits n g plain xs (omega arith)) (omega arith))
    at between backslash e f g = omega (arith, f in_word)
    at between operator e f g = omega (arith, operator_size x, f between)
    at between space e f g = omega (arith, f between)
    at between other e f g =
        let on = run_on x xs (tests_other (x == 34) (x == 92) (is_operator x) (is_space x) e) in
        omega (arith, on, word_size (x ∷ xs) (omega arith), word_rest n g xs (omega arith))
    at in_word quote e f g = omega (arith, f in_word)
    at in_word backslash e f g = omega (arith, f in_word)
    at in_word operator e f g = omega (arith, operator_size x, f between)
    at in_word space e f g = omega (arith, f between)
    at in_word other e f g = omega (arith, f in_word)
    at in_string quote e f g = omega (arith, f between)
    at in_string backslash e f g = omega (arith, f in_escape)
    at in_string operator e f g = omega (arith, f in_string)
    at in_string space e f g = omega (arith, f in_string)
    at in_string other e f g = omega (arith, f in_string)
    at in_escape c e f g = omega (arith, f in_string)

-- a text is no shorter than the print of its tokens
pub length-print : (bytes : List ℕ) → length (print (tokens bytes)) ≤ length bytes
length-print bytes = omega (arith, fresh_fits (lex between bytes), text_fits (length bytes) between bytes (omega arith))
