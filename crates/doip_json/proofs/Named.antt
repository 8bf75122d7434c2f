-- What a pointer that is written from names finds.
use Rattle.std.proofs.Common.{◌≡◌, ◌≢◌, ℕ, List, [], ◌∷◌, ◌++◌, map, Bool, true, false, ◌&&◌, Option, None, Some, option_map, option_and_then, refl, sym, ap, ◌∙◌, append_assoc, append-nil, ne_eqb}
use Rattle.std.proofs.Common.{eqb-true, eq-eqb}
use Rattle.std.proofs.lemmas.Bool.{false≢true, and_parts}
use Rattle.std.specs.Prelude.{◌==◌, ◌||◌, not, nat_lt, nat_le, length, slice_index, if◌then◌else◌}
use Rattle.std.specs.Str.Parse.{digits_value}
use Rattle.std.specs.Char.{is_ascii_digit}
use Rattle.std.specs.Str.{all_ascii_digits}
use Rattle.doip_json.specs.Value.{Value, null, truth, whole, text, list, table}
use Rattle.doip_json.specs.Look.{entry_of}
use Rattle.doip_json.specs.Pointer.{unescaped, is_position, position_in, item_of, named_by, parts_of, with_byte, followed, pointed}
use Rattle.doip_json.specs.Written.{in_token, token_of, pointer_of, led_by, led_to}
use Rattle.std.proofs.Common.{encode_utf8, suc, ◌<◌, arith}
use Rattle.std.proofs.lemmas.Str.{inside_one}
use Rattle.doip_json.proofs.Tokens.{Lacks, unescaped-byte, unescaped-tilde, unescaped-slash, unescaped-none}

-- a fact of every byte, from that of `~`, of `/` and of any other
by_byte : (P : ℕ → Type 0) → P 126 → P 47 → ((x : ℕ) → x ≢ 126 → x ≢ 47 → P x) → (x : ℕ) → P x
by_byte P tilde slash other x = at (x == 126) refl
  where
    last : (b : Bool) → (x == 47) ≡ b → x ≢ 126 → P x
    last true e f = rw (eqb-true x 47 e) slash
    last false e f = other x f (λ same. false≢true (sym e ∙ eq-eqb x 47 same))

    at : (b : Bool) → (x == 126) ≡ b → P x
    at true e = rw (eqb-true x 126 e) tilde
    at false e = last (x == 47) refl (λ same. false≢true (sym e ∙ eq-eqb x 126 same))

-- a token writes its name
pub unescaped-token_of : (s : List ℕ) → unescaped (token_of s) ≡ Some s
unescaped-token_of [] = unescaped-none
unescaped-token_of (x ∷ s) = by_byte (λ y. unescaped (token_of (y ∷ s)) ≡ Some (y ∷ s))
    (unescaped-tilde (token_of s) ∙ ap (option_map (λ (t : List ℕ). 126 ∷ t)) (unescaped-token_of s))
    (unescaped-slash (token_of s) ∙ ap (option_map (λ (t : List ℕ). 47 ∷ t)) (unescaped-token_of s))
    (λ y f g. rw (ne_eqb y 126 f, ne_eqb y 47 g) (unescaped-byte y (token_of s) f ∙ ap (option_map (λ (t : List ℕ). y ∷ t)) (unescaped-token_of s)))
    x

-- a token has no slash, so it is a part by itself
pub parts_of-token : (s : List ℕ) → parts_of (token_of s) ≡ token_of s ∷ []
parts_of-token [] = refl
parts_of-token (x ∷ s) = by_byte (λ y. parts_of (token_of (y ∷ s)) ≡ token_of (y ∷ s) ∷ [])
    (ap (λ ps. with_byte 126 (with_byte 48 ps)) (parts_of-token s))
    (ap (λ ps. with_byte 126 (with_byte 49 ps)) (parts_of-token s))
    (λ y f g. rw (ne_eqb y 126 f, ne_eqb y 47 g) (rw (ne_eqb y 47 g) (ap (with_byte y) (parts_of-token s))))
    x

pub parts_of-tokens : (s rest : List ℕ) → parts_of (token_of s ++ 47 ∷ rest) ≡ token_of s ∷ parts_of rest
parts_of-tokens [] rest = refl
parts_of-tokens (x ∷ s) rest = by_byte (λ y. parts_of (token_of (y ∷ s) ++ 47 ∷ rest) ≡ token_of (y ∷ s) ∷ parts_of rest)
    (ap (λ ps. with_byte 126 (with_byte 48 ps)) (parts_of-tokens s rest))
    (ap (λ ps. with_byte 126 (with_byte 49 ps)) (parts_of-tokens s rest))
    (λ y f g. rw (ne_eqb y 126 f, ne_eqb y 47 g) (rw (ne_eqb y 47 g) (ap (with_byte y) (parts_of-tokens s rest))))
    x

-- the parts of a pointer are its tokens
pub parts_of-pointer : (name : List ℕ) (names : List (List ℕ)) → parts_of (token_of name ++ pointer_of names) ≡ token_of name ∷ map token_of names
parts_of-pointer name [] = ap parts_of (append-nil (token_of name)) ∙ parts_of-token name
parts_of-pointer name (next ∷ names) =
    parts_of-tokens name (token_of next ++ pointer_of names) ∙ ap (λ (ps : List (List ℕ)). token_of name ∷ ps) (parts_of-pointer next names)

-- digits need no escape, and an escape is no digit
digits_kept : (s : List ℕ) → all_ascii_digits s ≡ true → token_of s ≡ s
digits_kept [] = λ h. refl
digits_kept (x ∷ s) = by_byte (λ y. all_ascii_digits (y ∷ s) ≡ true → token_of (y ∷ s) ≡ y ∷ s)
    (λ h. absurd (false≢true h))
    (λ h. absurd (false≢true h))
    (λ y f g h. rw (ne_eqb y 126 f, ne_eqb y 47 g) (ap (λ (t : List ℕ). y ∷ t) (digits_kept s (and_parts _ _ h).1)))
    x

digits_same : (s : List ℕ) → all_ascii_digits (token_of s) ≡ all_ascii_digits s
digits_same [] = refl
digits_same (x ∷ s) = by_byte (λ y. all_ascii_digits (token_of (y ∷ s)) ≡ all_ascii_digits (y ∷ s))
    refl
    refl
    (λ y f g. rw (ne_eqb y 126 f, ne_eqb y 47 g) (ap (λ b. is_ascii_digit y && b) (digits_same s)))
    x

and_false : (b : Bool) → (b && false) ≡ false
and_false true = refl
and_false false = refl

no_position : (s : List ℕ) → all_ascii_digits s ≡ false → position_in s ≡ None
no_position s e =
    let before = nat_lt 0 (length s) && nat_le (length s) 9 && ((length s == 1) || not (slice_index s 0 == 48)) in
    let none : is_position s ≡ false = ap (λ b. before && b) e ∙ and_false before in
    ap (λ b. if b then Some (digits_value 10 s) else None) none

pub position_in-token : (s : List ℕ) → position_in (token_of s) ≡ position_in s
position_in-token s = at (all_ascii_digits s) refl
  where
    at : (b : Bool) → all_ascii_digits s ≡ b → position_in (token_of s) ≡ position_in s
    at true e = ap position_in (digits_kept s e)
    at false e = no_position (token_of s) (digits_same s ∙ e) ∙ sym (no_position s e)

pub named_by-token : (name : List ℕ) (v : Value) → named_by (token_of name) v ≡ led_by name v
named_by-token name null = refl
named_by-token name (truth b) = refl
named_by-token name (whole z) = refl
named_by-token name (text s) = refl
named_by-token name (list vs) = ap (option_and_then (λ i. item_of i vs)) (position_in-token name)
named_by-token name (table es) = ap (option_and_then (λ k. entry_of k es)) (unescaped-token_of name)

pub followed-tokens : (names : List (List ℕ)) (v : Value) → followed (map token_of names) v ≡ led_to names v
followed-tokens [] v = refl
followed-tokens (name ∷ names) v =
    ap (option_and_then (followed (map token_of names))) (named_by-token name v) ∙ after (followed-tokens names) (led_by name v)
  where
    after : ((w : Value) → followed (map token_of names) w ≡ led_to names w) → (o : Option Value)
        → option_and_then (followed (map token_of names)) o ≡ option_and_then (led_to names) o
    after same None = refl
    after same (Some w) = same w

pub pointed-pointer_of : (names : List (List ℕ)) (v : Value) → pointed (pointer_of names) v ≡ led_to names v
pointed-pointer_of [] v = refl
pointed-pointer_of (name ∷ names) v =
    ap (λ ps. followed ps v) (parts_of-pointer name names) ∙ followed-tokens (name ∷ names) v

-- ---- letter by letter

token_of-append : (xs ys : List ℕ) → token_of (xs ++ ys) ≡ token_of xs ++ token_of ys
token_of-append [] ys = refl
token_of-append (x ∷ xs) ys = ap (λ (t : List ℕ). in_token x ++ t) (token_of-append xs ys) ∙ sym (append_assoc (in_token x) (token_of xs) (token_of ys))

token_of-lacks : (xs : List ℕ) → Lacks 126 xs → Lacks 47 xs → token_of xs ≡ xs
token_of-lacks [] f g = refl
token_of-lacks (x ∷ xs) f g = rw (ne_eqb x 126 (f 0 (omega arith)), ne_eqb x 47 (g 0 (omega arith)))
    (ap (λ (t : List ℕ). x ∷ t) (token_of-lacks xs (λ i h. f (suc i) (omega arith)) (λ i h. g (suc i) (omega arith))))

lacks_letter : (x letter : ℕ) → x < 128 → letter ≢ x → Lacks x (encode_utf8 letter)
lacks_letter x letter low other = λ k within is. other (inside_one letter [] (encode_utf8 letter) k (sym (append-nil (encode_utf8 letter))) within (omega arith) ∙ is)

-- a letter that needs no escape
pub token_of-letter : (letter : ℕ) → letter ≢ 126 → letter ≢ 47 → encode_utf8 letter ≡ token_of (encode_utf8 letter)
token_of-letter letter f g = sym (token_of-lacks (encode_utf8 letter) (lacks_letter 126 letter (omega arith) f) (lacks_letter 47 letter (omega arith) g))

-- the token so far, and what is left of the name, once one more letter is written
pub one_letter : (letter : ℕ) (before written piece left after all : List ℕ) → written ≡ before ++ piece → piece ≡ token_of (encode_utf8 letter) → left ≡ encode_utf8 letter ++ after
    → before ++ token_of left ≡ all → written ++ token_of after ≡ all
one_letter letter before written piece left after all more is cut held =
    ap (λ (t : List ℕ). t ++ token_of after) (more ∙ ap (λ (p : List ℕ). before ++ p) is)
    ∙ append_assoc before (token_of (encode_utf8 letter)) (token_of after)
    ∙ ap (λ (t : List ℕ). before ++ t) (sym (token_of-append (encode_utf8 letter) after) ∙ ap token_of (sym cut))
    ∙ held
