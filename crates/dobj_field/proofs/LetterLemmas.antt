-- What a letter of a pointer's text says of the tokens.
use Rattle.std.proofs.Common.{◌≡◌, ◌≢◌, ℕ, ◌<◌, List, [], ◌∷◌, length, get_or, Some, None, option_map, refl, arith}
use Rattle.std.proofs.Common.{ne_eqb, true, false}
use Rattle.dobj_field.specs.Field.{tokens_of, before_first, stands_apart}
use Rattle.dobj_field.specs.Letters.{IsByte, IsFault}
use Rattle.dobj_field.proofs.Utf8.{drop_ascii, put_ascii}

pub plain_reads : (x : ℕ) (more : List ℕ) → x ≢ 47 → x ≢ 92 → x ≢ 126 → stands_apart x ≡ false
    → tokens_of (x ∷ more) ≡ option_map (before_first (x ∷ [])) (tokens_of more)
unfolding tokens_of
plain_reads x [] a b c plain = rw (ne_eqb x 47 a, ne_eqb x 92 b, ne_eqb x 126 c, plain) refl
plain_reads x (y ∷ more) a b c plain = rw (ne_eqb x 47 a, ne_eqb x 92 b, ne_eqb x 126 c, plain) refl

apart_reads : (x : ℕ) (more : List ℕ) → x ≢ 47 → x ≢ 92 → x ≢ 126 → stands_apart x ≡ true → tokens_of (x ∷ more) ≡ None
unfolding tokens_of
apart_reads x [] a b c apart = rw (ne_eqb x 47 a, ne_eqb x 92 b, ne_eqb x 126 c, apart) refl
apart_reads x (y ∷ more) a b c apart = rw (ne_eqb x 47 a, ne_eqb x 92 b, ne_eqb x 126 c, apart) refl

-- a byte that writes itself
pub plain : (rest : List ℕ) → 0 < length rest → get_or rest 0 0 ≢ 47 → get_or rest 0 0 ≢ 92 → get_or rest 0 0 ≢ 126
    → stands_apart (get_or rest 0 0) ≡ false → IsByte rest (get_or rest 0 0) 1
plain [] some a b c alone = absurd (omega arith)
plain (x ∷ r) some a b c alone = record {
  some = omega arith;
  within = omega arith;
  reads = λ more. plain_reads x more a b c alone;
  utf8 = λ prefix text. text;
}

pub nothing_reads : tokens_of [] ≡ Some ([] ∷ [])
unfolding tokens_of
nothing_reads = refl

-- a byte that stands apart
pub apart : (rest : List ℕ) → 0 < length rest → get_or rest 0 0 ≢ 47 → get_or rest 0 0 ≢ 92 → get_or rest 0 0 ≢ 126
    → stands_apart (get_or rest 0 0) ≡ true → IsFault rest 0
apart [] some a b c alone = absurd (omega arith)
apart (x ∷ r) some a b c alone = record {
  within = omega arith;
  begins = ([], rw nothing_reads refl);
  ends = λ h more. apart_reads x more a b c alone;
  short = λ e. absurd (omega arith);
}

-- a backslash or a tilde with nothing after it
pub alone_backslash : (rest : List ℕ) → get_or rest 0 0 ≡ 92 → length rest ≡ 1 → IsFault rest 1
unfolding tokens_of
alone_backslash [] head one = absurd (omega arith)
alone_backslash (x ∷ []) head one = rw head record {
  within = omega arith;
  begins = (48 ∷ [], refl);
  ends = λ h. absurd (omega arith);
  short = λ e. refl;
}
alone_backslash (x ∷ y ∷ r) head one = absurd (omega arith)

pub alone_tilde : (rest : List ℕ) → get_or rest 0 0 ≡ 126 → length rest ≡ 1 → IsFault rest 1
unfolding tokens_of
alone_tilde [] head one = absurd (omega arith)
alone_tilde (x ∷ []) head one = rw head record {
  within = omega arith;
  begins = (48 ∷ [], refl);
  ends = λ h. absurd (omega arith);
  short = λ e. refl;
}
alone_tilde (x ∷ y ∷ r) head one = absurd (omega arith)

-- the byte that a backslash takes
pub taken : (rest : List ℕ) → get_or rest 0 0 ≡ 92 → 1 < length rest → IsByte rest (get_or rest 1 0) 2
unfolding tokens_of
taken [] head more = absurd (omega arith)
taken (x ∷ []) head more = absurd (omega arith)
taken (x ∷ y ∷ r) head more = rw head record {
  some = omega arith;
  within = omega arith;
  reads = λ more. refl;
  utf8 = λ prefix text. drop_ascii prefix (y ∷ r) 92 (omega arith) text;
}

-- `~0` and `~1`
pub tilde : (rest : List ℕ) → get_or rest 0 0 ≡ 126 → 1 < length rest → get_or rest 1 0 ≡ 48 → IsByte rest 126 2
unfolding tokens_of
tilde [] head more digit = absurd (omega arith)
tilde (x ∷ []) head more digit = absurd (omega arith)
tilde (x ∷ y ∷ r) head more digit = rw (head, digit) record {
  some = omega arith;
  within = omega arith;
  reads = λ more. refl;
  utf8 = λ prefix text. put_ascii prefix r 48 126 (omega arith) (omega arith)
      (drop_ascii prefix (48 ∷ r) 126 (omega arith) text);
}

pub slash : (rest : List ℕ) → get_or rest 0 0 ≡ 126 → 1 < length rest → get_or rest 1 0 ≡ 49 → IsByte rest 47 2
unfolding tokens_of
slash [] head more digit = absurd (omega arith)
slash (x ∷ []) head more digit = absurd (omega arith)
slash (x ∷ y ∷ r) head more digit = rw (head, digit) record {
  some = omega arith;
  within = omega arith;
  reads = λ more. refl;
  utf8 = λ prefix text. put_ascii prefix r 49 47 (omega arith) (omega arith)
      (drop_ascii prefix (49 ∷ r) 126 (omega arith) text);
}

no_escape : (y : ℕ) (more : List ℕ) → y ≢ 48 → y ≢ 49 → tokens_of (126 ∷ y ∷ more) ≡ None
unfolding tokens_of
no_escape y more a b = rw (ne_eqb y 48 a, ne_eqb y 49 b) refl

-- a tilde before any other byte
pub no_digit : (rest : List ℕ) → get_or rest 0 0 ≡ 126 → 1 < length rest → get_or rest 1 0 ≢ 48 → get_or rest 1 0 ≢ 49
    → IsFault rest 1
unfolding tokens_of
no_digit [] head more a b = absurd (omega arith)
no_digit (x ∷ []) head more a b = absurd (omega arith)
no_digit (x ∷ y ∷ r) head more a b = rw head record {
  within = omega arith;
  begins = (48 ∷ [], refl);
  ends = λ h rest. no_escape y rest a b;
  short = λ e. absurd (omega arith);
}

-- a slash begins the next token
pub slash_reads : (more : List ℕ) → tokens_of (47 ∷ more) ≡ option_map (λ tokens. [] ∷ tokens) (tokens_of more)
unfolding tokens_of
slash_reads [] = refl
slash_reads (y ∷ more) = refl
