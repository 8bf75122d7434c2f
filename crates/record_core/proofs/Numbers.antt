-- Numbers of two, four and eight bytes, as they are written and read.
use Rattle.std.proofs.Common.{◌≡◌, ℕ, ◌^◌, ◌<◌, ◌+◌, inl, inr, List, ◌++◌, length, get_or, take, drop, sym, refl, ◌∙◌, ap, subst, arith, length-take, take-append-drop}
use Rattle.std.proofs.lemmas.Bool.{cases_lt}
use Rattle.std.proofs.lemmas.List.{take_at, drop_at, get_or-take, get_or_past}
use Rattle.std.proofs.lemmas.Nat.{be_bytes_2, be_bytes_4, be_bytes_8, from_be_bytes-to_be_bytes_2, from_be_bytes-to_be_bytes_4, from_be_bytes-to_be_bytes_8}
use Rattle.std.specs.Int.{w16, w32, w64, to_be_bytes, from_be_bytes}
use Rattle.record_core.specs.Numbers.{in_two, in_four, in_eight}

-- a prefix of bytes is bytes
pub take_bytes : (n : ℕ) (xs : List ℕ) → ((j : ℕ) → get_or xs j 0 < 256) → (i : ℕ) → get_or (take n xs) i 0 < 256
take_bytes n xs bytes i = elim (cases_lt i n) [
  | inl within ↦ subst (λ (b : ℕ). b < 256) (sym (get_or-take n xs i 0 within)) (bytes i)
  | inr past ↦ subst (λ (b : ℕ). b < 256) (sym (get_or_past (take n xs) i 0 (omega (arith, length-take n xs)))) (omega arith)
]

pub is_two : (field : List ℕ) (n : ℕ) → field ≡ to_be_bytes w16 n → field ≡ in_two n
unfolding in_two
is_two field n is = is

pub is_four : (field : List ℕ) (n : ℕ) → field ≡ to_be_bytes w32 n → field ≡ in_four n
unfolding in_four
is_four field n is = is

pub is_eight : (field : List ℕ) (n : ℕ) → field ≡ to_be_bytes w64 n → field ≡ in_eight n
unfolding in_eight
is_eight field n is = is

pub length-two : (n : ℕ) → length (in_two n) ≡ 2
unfolding in_two
length-two n = refl

pub length-four : (n : ℕ) → length (in_four n) ≡ 4
unfolding in_four
length-four n = refl

pub length-eight : (n : ℕ) → length (in_eight n) ≡ 8
unfolding in_eight
length-eight n = refl

two_back : (n : ℕ) → n < 2 ^ 16 → from_be_bytes w16 (in_two n) ≡ n
unfolding in_two
two_back n small = from_be_bytes-to_be_bytes_2 n small

four_back : (n : ℕ) → n < 2 ^ 32 → from_be_bytes w32 (in_four n) ≡ n
unfolding in_four
four_back n small = from_be_bytes-to_be_bytes_4 n small

eight_back : (n : ℕ) → n < 2 ^ 64 → from_be_bytes w64 (in_eight n) ≡ n
unfolding in_eight
eight_back n small = from_be_bytes-to_be_bytes_8 n small

-- bytes that begin with two numbers
pub same_two : (m n : ℕ) (x y : List ℕ) → m < 2 ^ 16 → n < 2 ^ 16 → in_two m ++ x ≡ in_two n ++ y → (m ≡ n) × (x ≡ y)
same_two m n x y small below is = (
  sym (two_back m small) ∙ ap (from_be_bytes w16) (sym (take_at (in_two m) x 2 (length-two m)) ∙ ap (λ (l : List ℕ). take 2 l) is ∙ take_at (in_two n) y 2 (length-two n)) ∙ two_back n below,
  sym (drop_at (in_two m) x 2 (length-two m)) ∙ ap (λ (l : List ℕ). drop 2 l) is ∙ drop_at (in_two n) y 2 (length-two n),
)

pub same_four : (m n : ℕ) (x y : List ℕ) → m < 2 ^ 32 → n < 2 ^ 32 → in_four m ++ x ≡ in_four n ++ y → (m ≡ n) × (x ≡ y)
same_four m n x y small below is = (
  sym (four_back m small) ∙ ap (from_be_bytes w32) (sym (take_at (in_four m) x 4 (length-four m)) ∙ ap (λ (l : List ℕ). take 4 l) is ∙ take_at (in_four n) y 4 (length-four n)) ∙ four_back n below,
  sym (drop_at (in_four m) x 4 (length-four m)) ∙ ap (λ (l : List ℕ). drop 4 l) is ∙ drop_at (in_four n) y 4 (length-four n),
)

pub same_eight : (m n : ℕ) (x y : List ℕ) → m < 2 ^ 64 → n < 2 ^ 64 → in_eight m ++ x ≡ in_eight n ++ y → (m ≡ n) × (x ≡ y)
same_eight m n x y small below is = (
  sym (eight_back m small) ∙ ap (from_be_bytes w64) (sym (take_at (in_eight m) x 8 (length-eight m)) ∙ ap (λ (l : List ℕ). take 8 l) is ∙ take_at (in_eight n) y 8 (length-eight n)) ∙ eight_back n below,
  sym (drop_at (in_eight m) x 8 (length-eight m)) ∙ ap (λ (l : List ℕ). drop 8 l) is ∙ drop_at (in_eight n) y 8 (length-eight n),
)

-- a number that is read from the first bytes
pub cut_two : (bytes field rest : List ℕ) (n : ℕ) → ((i : ℕ) → get_or bytes i 0 < 256) → field ≡ take 2 bytes → rest ≡ drop 2 bytes → length rest + 2 ≡ length bytes → n ≡ from_be_bytes w16 field → bytes ≡ in_two n ++ rest
unfolding in_two
cut_two bytes field rest n small first after long is =
    let size : length field ≡ 2 = ap length first ∙ omega (arith, length-take 2 bytes, long) in
    let read : to_be_bytes w16 n ≡ field = be_bytes_2 field n size (subst (λ (l : List ℕ). (i : ℕ) → get_or l i 0 < 256) (sym first) (take_bytes 2 bytes small)) is in
    sym (take-append-drop 2 bytes) ∙ (λ j. (sym first ∙ sym read) j ++ sym after j)

pub cut_four : (bytes field rest : List ℕ) (n : ℕ) → ((i : ℕ) → get_or bytes i 0 < 256) → field ≡ take 4 bytes → rest ≡ drop 4 bytes → length rest + 4 ≡ length bytes → n ≡ from_be_bytes w32 field → bytes ≡ in_four n ++ rest
unfolding in_four
cut_four bytes field rest n small first after long is =
    let size : length field ≡ 4 = ap length first ∙ omega (arith, length-take 4 bytes, long) in
    let read : to_be_bytes w32 n ≡ field = be_bytes_4 field n size (subst (λ (l : List ℕ). (i : ℕ) → get_or l i 0 < 256) (sym first) (take_bytes 4 bytes small)) is in
    sym (take-append-drop 4 bytes) ∙ (λ j. (sym first ∙ sym read) j ++ sym after j)

pub cut_eight : (bytes field rest : List ℕ) (n : ℕ) → ((i : ℕ) → get_or bytes i 0 < 256) → field ≡ take 8 bytes → rest ≡ drop 8 bytes → length rest + 8 ≡ length bytes → n ≡ from_be_bytes w64 field → bytes ≡ in_eight n ++ rest
unfolding in_eight
cut_eight bytes field rest n small first after long is =
    let size : length field ≡ 8 = ap length first ∙ omega (arith, length-take 8 bytes, long) in
    let read : to_be_bytes w64 n ≡ field = be_bytes_8 field n size (subst (λ (l : List ℕ). (i : ℕ) → get_or l i 0 < 256) (sym first) (take_bytes 8 bytes small)) is in
    sym (take-append-drop 8 bytes) ∙ (λ j. (sym first ∙ sym read) j ++ sym after j)
