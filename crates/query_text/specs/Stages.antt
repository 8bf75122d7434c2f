-- Languages made of others: a word, white bytes or a value, and then what follows. This project's own.
use Rattle.std.specs.Prelude.{◌≡◌, ℕ, ℤ, List, [], ◌∷◌, ◌++◌, Bool, true, Option, Some, None}
use Rattle.dobj_field.specs.Field.{IsField}
use Rattle.dobj_field.specs.declared.field.Field.{Field}
use Rattle.dobj_field.specs.declared.reach.ScalarTest.{ScalarTest}
use Rattle.query_text.specs.Parts.{all_white}
use Rattle.query_text.specs.Spelling.{IsGap, IsBound, IsValue}

-- the first byte of a text
abbrev pub first : List ℕ → Option ℕ
first [] = None
first (x ∷ rest) = Some x

-- After these bytes a text of the one language goes on as one of the other: always where it is one of the other, and
-- only so where it goes on with the same byte as the rest.
pub record Leads (L N : Bool → List ℕ → Type 0) (bytes rest : List ℕ) : Type 0 where
  pub forth : (strict : Bool) (more : List ℕ) → N strict more → L strict (bytes ++ more)
  pub back : (strict : Bool) (more : List ℕ) → first more ≡ first rest → L strict (bytes ++ more) → N strict more

-- these bytes first
abbrev pub Word : List ℕ → (Bool → List ℕ → Type 0) → Bool → List ℕ → Type 0
Word word Next strict text = (rest : List ℕ) × (text ≡ word ++ rest) × Next strict rest

-- white bytes first
abbrev pub White : (Bool → List ℕ → Type 0) → Bool → List ℕ → Type 0
White Next strict text = (white rest : List ℕ) × (text ≡ white ++ rest) × (all_white white ≡ true) × Next strict rest

-- at least one white byte first
abbrev pub Gap : (Bool → List ℕ → Type 0) → Bool → List ℕ → Type 0
Gap Next strict text = (gap rest : List ℕ) × (text ≡ gap ++ rest) × IsGap gap × Next strict rest

-- a bound first
abbrev pub Bound : (Bool → List ℕ → Type 0) → Bool → List ℕ → Type 0
Bound Next strict text = (bytes rest : List ℕ) × (bound : Option ℤ) × (text ≡ bytes ++ rest)
    × IsBound strict bytes bound × Next strict rest

-- a value first
abbrev pub Value : (Bool → List ℕ → Type 0) → Bool → List ℕ → Type 0
Value Next strict text = (bytes rest : List ℕ) × (test : ScalarTest) × (text ≡ bytes ++ rest)
    × IsValue strict bytes test × Next strict rest

-- a field and a colon first
abbrev pub Name : (Bool → List ℕ → Type 0) → Bool → List ℕ → Type 0
Name Next strict text = (name rest : List ℕ) × (field : Field) × (text ≡ name ++ 58 ∷ rest) × IsField name field
    × Next strict rest

-- what follows the `[` of a range
abbrev pub Range : (Bool → List ℕ → Type 0) → Bool → List ℕ → Type 0
Range Next = White (Bound (Gap (Word (84 ∷ 79 ∷ []) (Gap (Bound (White (Word (93 ∷ []) Next)))))))
