-- Numbers of eight bytes, as they are written and read.
use Rattle.std.proofs.Common.{inl, inr, ◌≡◌, ℕ, ◌^◌, ◌<◌, List, ◌++◌, length, get_or, take, drop, sym, refl, ◌∙◌, ap, subst, arith, length-take}
use Rattle.std.proofs.lemmas.Bool.{cases_lt}
use Rattle.std.proofs.lemmas.List.{take_at, drop_at, get_or-take, get_or_past}
use Rattle.std.proofs.lemmas.Nat.{be_bytes_8, from_be_bytes-to_be_bytes_8}
use Rattle.std.specs.Int.{w64, to_be_bytes, from_be_bytes}
use Rattle.journal_core.specs.File.{big_endian}

pub length-big_endian : (n : ℕ) → length (big_endian n) ≡ 8
unfolding big_endian
length-big_endian n = refl

pub is_big_endian : (eight : List ℕ) (n : ℕ) → eight ≡ to_be_bytes w64 n → eight ≡ big_endian n
unfolding big_endian
is_big_endian eight n is = is

pub field_read : (field : List ℕ) (n : ℕ) → length field ≡ 8 → ((i : ℕ) → get_or field i 0 < 256) → n ≡ from_be_bytes w64 field → big_endian n ≡ field
unfolding big_endian
field_read field n size bytes is = be_bytes_8 field n size bytes is

pub from_field : (n : ℕ) → n < 2 ^ 64 → from_be_bytes w64 (big_endian n) ≡ n
unfolding big_endian
from_field n small = from_be_bytes-to_be_bytes_8 n small

pub big_endian_injective : (m n : ℕ) → m < 2 ^ 64 → n < 2 ^ 64 → big_endian m ≡ big_endian n → m ≡ n
big_endian_injective m n small below is = sym (from_field m small) ∙ ap (from_be_bytes w64) is ∙ from_field n below

-- the first eight bytes, and what follows them
pub first_field : (n : ℕ) (rest : List ℕ) → take 8 (big_endian n ++ rest) ≡ big_endian n
first_field n rest = take_at (big_endian n) rest 8 (length-big_endian n)

pub after_field : (n : ℕ) (rest : List ℕ) → drop 8 (big_endian n ++ rest) ≡ rest
after_field n rest = drop_at (big_endian n) rest 8 (length-big_endian n)

-- bytes that begin with two numbers
pub same_field : (m n : ℕ) (x y : List ℕ) → m < 2 ^ 64 → n < 2 ^ 64 → big_endian m ++ x ≡ big_endian n ++ y → (m ≡ n) × (x ≡ y)
same_field m n x y small below is = (
  big_endian_injective m n small below (sym (first_field m x) ∙ ap (λ (l : List ℕ). take 8 l) is ∙ first_field n y),
  sym (after_field m x) ∙ ap (λ (l : List ℕ). drop 8 l) is ∙ after_field n y,
)

-- a prefix of bytes is bytes
pub take_bytes : (n : ℕ) (xs : List ℕ) → ((j : ℕ) → get_or xs j 0 < 256) → (i : ℕ) → get_or (take n xs) i 0 < 256
take_bytes n xs bytes i = elim (cases_lt i n) [
  | inl within ↦ subst (λ (b : ℕ). b < 256) (sym (get_or-take n xs i 0 within)) (bytes i)
  | inr past ↦ subst (λ (b : ℕ). b < 256) (sym (get_or_past (take n xs) i 0 (omega (arith, length-take n xs)))) (omega arith)
]
