-- What one letter of a pointer's text says of the text's tokens.
use Rattle.std.specs.Prelude.{◌≡◌, ◌≤◌, ◌<◌, ◌+◌, ℕ, List, [], ◌∷◌, ◌++◌, length, take, drop, None, Some, option_map}
use Rattle.std.specs.Prelude.{IsSome, IsUtf8}
use Rattle.dobj_field.specs.declared.field.Letter.{Letter}
use Rattle.dobj_field.specs.declared.field.Letter.TheVariants.{Slash, Byte, Fault}
use Rattle.dobj_field.specs.Field.{tokens_of, before_first}

-- a byte of a token, written by the first bytes of the rest
pub record IsByte (rest : List ℕ) (byte width : ℕ) : Type 0 where
  pub some : 0 < width
  pub within : width ≤ length rest
  pub reads : (more : List ℕ)
      → tokens_of (take width rest ++ more) ≡ option_map (before_first (byte ∷ [])) (tokens_of more)
  pub utf8 : (prefix : List ℕ) → IsUtf8 (prefix ++ rest) → IsUtf8 (prefix ++ byte ∷ drop width rest)

-- no pointer goes on with what stands up to this place, and some does with what stands before it
pub record IsFault (rest : List ℕ) (place : ℕ) : Type 0 where
  pub within : place ≤ length rest
  pub begins : (more : List ℕ) × IsSome (tokens_of (take place rest ++ more))
  pub ends : place < length rest → (more : List ℕ) → tokens_of (take (place + 1) rest ++ more) ≡ None
  pub short : place ≡ length rest → tokens_of rest ≡ None

-- the letter at the head of the rest
abbrev pub Reads : List ℕ → Letter → Type 0
Reads rest Slash = (more : List ℕ) × (rest ≡ 47 ∷ more)
Reads rest (Byte byte width) = IsByte rest byte width
Reads rest (Fault place) = IsFault rest place

-- the text is a slash and these tokens
abbrev pub HasTokens : List ℕ → List (List ℕ) → Type 0
HasTokens text tokens = (rest : List ℕ) × (text ≡ 47 ∷ rest) × (tokens_of rest ≡ Some tokens)
