-- A word of a text, as a number or `true`, is no longer than the bytes that the lexer passes over.
use Rattle.std.proofs.Common.{◌≡◌, ℕ, suc, ◌+◌, ◌-◌, ◌≤◌, max, List, [], ◌∷◌, length, take, drop, Bool, true, false, cond, ◌==◌, ◌&&◌, ◌||◌, not, Option, Some, None, option_and_then, refl, sym, ap, ◌∙◌, arith, ne_eqb, eqb-true, nat_eq}
use Rattle.std.specs.Prelude.{⊤}
use Rattle.std.proofs.lemmas.Bool.{false≢true, and_parts}
use Rattle.std.proofs.lemmas.Bool.Decides.{nat_tests}
use Rattle.std.proofs.lemmas.List.{length-take}
use Rattle.std.specs.List.{prefix_len, starts_with}
use Rattle.std.specs.Char.{is_ascii_digit}
use Rattle.std.specs.Cmp.Lexicographic.{pointwise}
use Rattle.json.specs.Token.{Token, number, boolean, null, bad}
use Rattle.json.specs.Word.{is_operator, is_space, head, ends_word, after_digits, after_minus, after_sign, after_whole, after_fraction, after_exponent, after_number, number_before, literal, word}
use Rattle.json.specs.Ascii as ascii
use Rattle.json.specs.Print.{token_text}

-- a byte that ends a word
abbrev pub delimits : ℕ → Bool
delimits x = is_operator x || is_space x

-- how many bytes the lexer passes over in a word
abbrev pub run : List ℕ → ℕ
run [] = 0
run (x ∷ xs) = cond (delimits x) 0 (suc (run xs))

pub run_on : (x : ℕ) (xs : List ℕ) → delimits x ≡ false → run (x ∷ xs) ≡ suc (run xs)
run_on x xs e = ap (λ b. cond b 0 (suc (run xs))) e

pub run_stop : (x : ℕ) (xs : List ℕ) → delimits x ≡ true → run (x ∷ xs) ≡ 0
run_stop x xs e = ap (λ b. cond b 0 (suc (run xs))) e

pub run_step : (x : ℕ) (xs : List ℕ) → run (x ∷ xs) ≤ suc (run xs)
run_step x xs = elim (delimits x) as (λ b. cond b 0 (suc (run xs)) ≤ suc (run xs)) [
  | true ↦ omega arith
  | false ↦ omega arith
]

-- from t to what is left of it no byte ends a word
record Passed (t r : List ℕ) : Type 0 where
  shorter : length r ≤ length t
  same : length t + run r ≡ run t + length r

abbrev Passes : List ℕ → Option (List ℕ) → Type 0
Passes t None = ⊤
Passes t (Some r) = Passed t r

stay : (t : List ℕ) → Passed t t
stay t = record { shorter = omega arith; same = omega arith }

on : (t u r : List ℕ) → Passed t u → Passed u r → Passed t r
on t u r a b = let p = a.shorter in let q = a.same in let s = b.shorter in let w = b.same in record { shorter = omega arith; same = omega arith }

further : (t u : List ℕ) (o : Option (List ℕ)) → Passed t u → Passes u o → Passes t o
further t u None a h = tt
further t u (Some r) a h = on t u r a h

then : (t : List ℕ) (f : List ℕ → Option (List ℕ)) → ((u : List ℕ) → Passes u (f u)) → (o : Option (List ℕ)) → Passes t o → Passes t (option_and_then f o)
then t f g None h = tt
then t f g (Some r) h = further t r (f r) h (g r)

choice : (t : List ℕ) (b : Bool) (x y : Option (List ℕ)) → (b ≡ true → Passes t x) → Passes t y → Passes t (cond b x y)
choice t true x y p q = p refl
choice t false x y p q = q

byte_passed : (x : ℕ) (t : List ℕ) → delimits x ≡ false → Passed (x ∷ t) t
byte_passed x t e = let r = run_on x t e in record { shorter = omega arith; same = omega arith }

-- the first byte is this one
first_passed : (c : ℕ) → delimits c ≡ false → (t : List ℕ) → (head t == c) ≡ true → Passed t (drop 1 t)
first_passed c plain [] e = absurd (false≢true (sym plain ∙ ap delimits (sym (eqb-true 32 c e))))
first_passed c plain (x ∷ t) e = byte_passed x t (ap delimits (eqb-true x c e) ∙ plain)

digit_plain : (x : ℕ) → is_ascii_digit x ≡ true → delimits x ≡ false
digit_plain x h =
    let low : 48 ≤ x = grind (arith, nat_tests) in
    let high : x ≤ 57 = grind (arith, nat_tests) in
    rw (
      ne_eqb x 123 (λ e. omega arith),
      ne_eqb x 125 (λ e. omega arith),
      ne_eqb x 91 (λ e. omega arith),
      ne_eqb x 93 (λ e. omega arith),
      ne_eqb x 58 (λ e. omega arith),
      ne_eqb x 44 (λ e. omega arith),
      ne_eqb x 32 (λ e. omega arith),
      ne_eqb x 9 (λ e. omega arith),
      ne_eqb x 10 (λ e. omega arith),
      ne_eqb x 13 (λ e. omega arith),
    ) refl

digits_passed : (t : List ℕ) → Passed t (drop (prefix_len is_ascii_digit t) t)
digits_passed [] = stay []
digits_passed (x ∷ t) = at (is_ascii_digit x) refl (digits_passed t)
  where
    at : (b : Bool) → is_ascii_digit x ≡ b → Passed t (drop (prefix_len is_ascii_digit t) t) → Passed (x ∷ t) (drop (prefix_len is_ascii_digit (x ∷ t)) (x ∷ t))
    at true e rest =
        let shape : 1 + prefix_len is_ascii_digit t ≡ suc (prefix_len is_ascii_digit t) = omega arith in
        rw e (rw shape (on (x ∷ t) t _ (byte_passed x t (digit_plain x e)) rest))
    at false e rest = rw e (stay (x ∷ t))

digits : (t : List ℕ) → Passes t (after_digits t)
digits t = choice t (prefix_len is_ascii_digit t == 0) None _ (λ e. tt) (digits_passed t)

one_of : (t : List ℕ) (b : Bool) → (b ≡ true → Passed t (drop 1 t)) → Passed t (cond b (drop 1 t) t)
one_of t true p = p refl
one_of t false p = stay t

either : (t : List ℕ) (a b : Bool) → (a ≡ true → Passed t (drop 1 t)) → (b ≡ true → Passed t (drop 1 t)) → (a || b) ≡ true → Passed t (drop 1 t)
either t true b p q e = p refl
either t false b p q e = q e

sign_passed : (t : List ℕ) → Passed t (after_sign t)
sign_passed t = one_of t ((head t == 45) || (head t == 43)) (either t (head t == 45) (head t == 43) (first_passed 45 refl t) (first_passed 43 refl t))

fraction : (t : List ℕ) → Passes t (after_fraction t)
fraction t = choice t (head t == 46) _ (Some t) (λ e. further t (drop 1 t) _ (first_passed 46 refl t e) (digits (drop 1 t))) (stay t)

exponent : (t : List ℕ) → Passes t (after_exponent t)
exponent t =
    choice t ((head t == 101) || (head t == 69)) _ (Some t)
    (λ e. further t (drop 1 t) _ (either t (head t == 101) (head t == 69) (first_passed 101 refl t) (first_passed 69 refl t) e)
    (further (drop 1 t) (after_sign (drop 1 t)) _ (sign_passed (drop 1 t)) (digits (after_sign (drop 1 t))))) (stay t)

whole : (t : List ℕ) → Passes t (after_whole t)
whole t = choice t (head t == 48) (Some (drop 1 t)) _ (first_passed 48 refl t) (digits t)

number_passed : (t : List ℕ) → Passes t (after_number t)
unfolding after_number
number_passed t =
    then t after_exponent exponent _ (then t after_fraction fraction _
    (further t (after_minus t) _ (one_of t (head t == 45) (first_passed 45 refl t)) (whole (after_minus t))))

-- ---- words

abbrev pub token_size : Token → ℕ
token_size t = max 1 (length (token_text t))

smaller : (k : ℕ) (b : Bool) (x y : Token) → (b ≡ true → token_size x ≤ k) → token_size y ≤ k → token_size (cond b x y) ≤ k
smaller k true x y p q = p refl
smaller k false x y p q = q

abbrev plain_bytes : List ℕ → Bool
plain_bytes [] = true
plain_bytes (x ∷ xs) = not (delimits x) && plain_bytes xs

not_false : (b : Bool) → not b ≡ true → b ≡ false
not_false true e = absurd (false≢true e)
not_false false e = refl

begins_run : (name t : List ℕ) → plain_bytes name ≡ true → pointwise nat_eq name (take (length name) t) ≡ true → length name ≤ run t
begins_run [] t p e = omega arith
begins_run (x ∷ name) [] p e = absurd (false≢true e)
begins_run (x ∷ name) (y ∷ t) p e =
    let plain = and_parts (not (delimits x)) (plain_bytes name) p in
    let same = and_parts (nat_eq x y) (pointwise nat_eq name (take (length name) t)) e in
    let is : x ≡ y = eqb-true x y same.0 in
    let r = run_on y t (ap delimits (sym is) ∙ not_false (delimits x) plain.0) in
    let more = begins_run name t plain.1 same.1 in omega arith

literal_size : (name t : List ℕ) (tok : Token) → plain_bytes name ≡ true → token_size tok ≤ length name → 1 ≤ run t → token_size (literal name tok t) ≤ run t
literal_size name t tok p small some =
    smaller (run t) (starts_with nat_eq t name && ends_word (drop (length name) t)) tok bad
    (λ e. let long = begins_run name t p (and_parts (starts_with nat_eq t name) _ e).0 in omega arith) (omega arith)

number_size : (t : List ℕ) → 1 ≤ run t → (o : Option (List ℕ)) → Passes t o → token_size (number_before t o) ≤ run t
number_size t some None h = omega arith
number_size t some (Some r) h =
    let a = h.shorter in let b = h.same in
    smaller (run t) (ends_word r) (number (take (length t - length r) t)) bad (λ e. omega (arith, length-take (length t - length r) t)) (omega arith)

pub word_size : (t : List ℕ) → 1 ≤ run t → token_size (word t) ≤ run t
unfolding word
word_size t some =
    smaller (run t) (head t == 116) _ _ (λ e. literal_size ascii.true_text t (boolean true) refl (omega arith) some)
    (smaller (run t) (head t == 102) _ _ (λ e. literal_size ascii.false_text t (boolean false) refl (omega arith) some)
    (smaller (run t) (head t == 110) _ _ (λ e. literal_size ascii.null_text t null refl (omega arith) some)
    (number_size t some (after_number t) (number_passed t))))
