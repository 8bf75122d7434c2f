-- Where a text stops being a query. This project's own.
use Rattle.std.specs.Prelude.{◌≡◌, ◌≤◌, ◌<◌, ◌+◌, ◌⊎◌, ℕ, ℤ, List, ◌∷◌, ◌++◌, Bool, true, false, length, take, drop}
use Rattle.doip_json.specs.Sound.{IsWhole}
use Rattle.query_text.specs.Spelling.{IsNumeral}

-- The place is the first by which it shows that the text isn't in the language: some text of the language begins with
-- what stands before it, and none begins with that and the byte at it, whatever its numbers. Where no byte shows it,
-- the place is the text's length. A language is strict about numbers, or takes any.
pub record BreaksOff (Language : Bool → List ℕ → Type 0) (text : List ℕ) (place : ℕ) : Type 0 where
  pub within : place ≤ length text
  pub begins : (more : List ℕ) × Language true (take place text ++ more)
  pub ends : place < length text → (more : List ℕ) → Language false (take (place + 1) text ++ more) → ⊥
  pub short : place ≡ length text → Language false text → ⊥

-- A bound whose number is out of range begins at the place: a `-` may stand there, these digits too, but for their
-- number.
pub record PastRange (Language : Bool → List ℕ → Type 0) (text : List ℕ) (place : ℕ) : Type 0 where
  pub numeral : List ℕ
  pub number : ℤ
  pub rest : List ℕ
  pub here : drop place text ≡ numeral ++ rest
  pub is : IsNumeral numeral number
  pub past : IsWhole number → ⊥
  pub begins : (more : List ℕ) × Language true (take place text ++ 45 ∷ more)
  pub reads : (more : List ℕ) × Language false (take place text ++ (numeral ++ more))
  pub never : (more : List ℕ) → Language true (take place text ++ (numeral ++ more)) → ⊥

-- the place of a fault
abbrev pub IsFault : (Bool → List ℕ → Type 0) → List ℕ → ℕ → Type 0
IsFault Language text place = BreaksOff Language text place ⊎ PastRange Language text place
