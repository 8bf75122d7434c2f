-- A pointer, a token at a time.
use Rattle.std.proofs.Common.{◌≡◌, ◌≢◌, ℕ, suc, ◌<◌, List, [], ◌∷◌, ◌++◌, length, get_or, Some, None, option_map, option_and_then, refl, ap, ◌∙◌, arith, ne_eqb}
use Rattle.std.proofs.Common.{Option, ◌+◌, drop}
use Rattle.std.proofs.lemmas.List.{drop_more}
use Rattle.doip_json.specs.Value.{Value}
use Rattle.doip_json.specs.Pointer.{unescaped, with_byte, parts_of, followed, pointed}

-- no byte is c
abbrev pub Lacks : ℕ → List ℕ → Type 0
Lacks c xs = (i : ℕ) → i < length xs → get_or xs i 0 ≢ c

pub parts_of-last : (xs : List ℕ) → Lacks 47 xs → parts_of xs ≡ xs ∷ []
parts_of-last [] lacks = refl
parts_of-last (x ∷ xs) lacks = rw (ne_eqb x 47 (lacks 0 (omega arith))) (ap (with_byte x) (parts_of-last xs (λ i h. lacks (suc i) (omega arith))))

pub parts_of-more : (xs rest : List ℕ) → Lacks 47 xs → parts_of (xs ++ 47 ∷ rest) ≡ xs ∷ parts_of rest
parts_of-more [] rest lacks = refl
parts_of-more (x ∷ xs) rest lacks = rw (ne_eqb x 47 (lacks 0 (omega arith))) (ap (with_byte x) (parts_of-more xs rest (λ i h. lacks (suc i) (omega arith))))

pub followed-one : (o : Option Value) → option_and_then (followed []) o ≡ o
followed-one None = refl
followed-one (Some v) = refl

pub no_slash : (xs : List ℕ) (v : Value) → 0 < length xs → ((rest : List ℕ) → xs ≢ 47 ∷ rest) → pointed xs v ≡ None
no_slash [] v some other = absurd (omega arith)
no_slash (x ∷ xs) v some other = rw (ne_eqb x 47 (λ e. other xs (ap (λ y. y ∷ xs) e))) refl

-- a token with no `~` writes itself
pub unescaped-plain : (xs : List ℕ) → Lacks 126 xs → unescaped xs ≡ Some xs
unfolding unescaped
unescaped-plain [] lacks = refl
unescaped-plain (x ∷ []) lacks = rw (ne_eqb x 126 (lacks 0 (omega arith))) refl
unescaped-plain (x ∷ y ∷ rest) lacks = rw (ne_eqb x 126 (lacks 0 (omega arith))) (ap (option_map (λ s. x ∷ s)) (unescaped-plain (y ∷ rest) (λ i h. lacks (suc i) (omega arith))))

-- a byte that begins no escape writes itself
pub unescaped-byte : (x : ℕ) (xs : List ℕ) → x ≢ 126 → unescaped (x ∷ xs) ≡ option_map (λ s. x ∷ s) (unescaped xs)
unfolding unescaped
unescaped-byte x [] other = rw (ne_eqb x 126 other) refl
unescaped-byte x (y ∷ rest) other = rw (ne_eqb x 126 other) refl

pub unescaped-alone : unescaped (126 ∷ []) ≡ None
unfolding unescaped
unescaped-alone = refl

pub unescaped-tilde : (rest : List ℕ) → unescaped (126 ∷ 48 ∷ rest) ≡ option_map (λ s. 126 ∷ s) (unescaped rest)
unfolding unescaped
unescaped-tilde rest = refl

pub unescaped-slash : (rest : List ℕ) → unescaped (126 ∷ 49 ∷ rest) ≡ option_map (λ s. 47 ∷ s) (unescaped rest)
unfolding unescaped
unescaped-slash rest = refl

pub unescaped-fault : (y : ℕ) (rest : List ℕ) → y ≢ 48 → y ≢ 49 → unescaped (126 ∷ y ∷ rest) ≡ None
unfolding unescaped
unescaped-fault y rest a b = rw (ne_eqb y 48 a, ne_eqb y 49 b) refl

pub unescaped-none : unescaped [] ≡ Some []
unfolding unescaped
unescaped-none = refl

-- two bytes of a text, and what follows
pub two_bytes : (s : List ℕ) (i x y : ℕ) → i + 1 < length s → get_or s i 0 ≡ x → get_or s (i + 1) 0 ≡ y → drop i s ≡ x ∷ y ∷ drop (i + 2) s
two_bytes s i x y h first second =
    let next : i + 1 + 1 ≡ i + 2 = omega arith in
    drop_more s i 0 (omega arith) ∙ (ap (λ b. b ∷ drop (i + 1) s) first ∙ ap (λ l. x ∷ l) (drop_more s (i + 1) 0 h ∙ (ap (λ b. b ∷ drop (i + 1 + 1) s) second ∙ ap (λ n. y ∷ drop n s) next)))
