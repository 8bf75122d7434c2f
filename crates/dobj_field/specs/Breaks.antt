-- Where a text stops being one of a language. This project's own.
use Rattle.std.specs.Prelude.{◌≡◌, ◌≤◌, ◌<◌, ◌+◌, ℕ, List, ◌++◌, length, take}

-- The text isn't in the language, and the place is the first by which that shows: some text of the language begins with
-- what stands before it, and none begins with that and the byte at it. Where no byte shows it, it is the text's length.
pub record BreaksAt (InLanguage : List ℕ → Type 0) (text : List ℕ) (place : ℕ) : Type 0 where
  pub within : place ≤ length text
  pub begins : (more : List ℕ) × InLanguage (take place text ++ more)
  pub ends : place < length text → (more : List ℕ) → InLanguage (take (place + 1) text ++ more) → ⊥
  pub short : place ≡ length text → InLanguage text → ⊥
