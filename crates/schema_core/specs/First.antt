-- The first failure of a value: this project's own order.
use Rattle.std.specs.Prelude.{◌≡◌, ℕ, ◌<◌, List, [], ◌∷◌, map, reverse, Option, Some, None, ◌⊎◌}
use Rattle.doip_json.specs.Value.{Value}
use Rattle.doip_json.specs.Written.{pointer_of}
use Rattle.schema_core.specs.declared.word.SchemaWord.{SchemaWord}
use Rattle.schema_core.specs.declared.word.SchemaWord.TheVariants as word
use Rattle.schema_core.specs.declared.words.Words.{Words}
use Rattle.schema_core.specs.Rules.{Rules}
use Rattle.schema_core.specs.Failing.{FailsHere, Fails, IsValid, Path}

-- the turn of a word at one value
abbrev pub turn_of : SchemaWord → ℕ
turn_of word.Kind = 0
turn_of word.Enum = 1
turn_of word.Minimum = 2
turn_of word.Maximum = 3
turn_of word.MinLength = 4
turn_of word.MaxLength = 5
turn_of word.MinItems = 6
turn_of word.MaxItems = 7
turn_of word.Required = 8
turn_of word.AdditionalProperties = 9
turn_of word.Properties = 10
turn_of word.Items = 11

-- One failure comes before another: a value before what is inside it, an earlier entry or item before a later one, and
-- at one value the word whose turn is earlier.
abbrev pub Before : Path → SchemaWord → Path → SchemaWord → Type 0
Before [] w [] x = turn_of w < turn_of x
Before [] w (t ∷ q) x = Unit {0}
Before (s ∷ p) w [] x = ⊥
Before (s ∷ p) w (t ∷ q) x = (s.0 < t.0) ⊎ ((s.0 ≡ t.0) × Before p w q x)

-- a failure before which there is none
pub record IsFirst (r : Rules) (v : Value) (path : Path) (w : SchemaWord) : Type 0 where
  pub fails : Fails r v path w
  pub least : (q : Path) → (x : SchemaWord) → Fails r v q x → ¬ (Before q x path w)

-- the word of the first failure, and none exactly when the value is valid
abbrev pub IsFirstWord : Rules → Value → Option SchemaWord → Type 0
IsFirstWord r v None = IsValid r v
IsFirstWord r v (Some w) = (path : Path) × IsFirst r v path w

-- the names of the steps
abbrev pub names_of : Path → List (List ℕ)
names_of = map (λ s. s.1)

-- the JSON pointer of the first failure, and none exactly when the value is valid
abbrev pub IsFirstPointer : Rules → Value → Option (List ℕ) → Type 0
IsFirstPointer r v None = IsValid r v
IsFirstPointer r v (Some pointer) =
    (path : Path) × (w : SchemaWord) × IsFirst r v path w × (pointer ≡ pointer_of (names_of path))

-- the names of the steps to the first failure, the last one first
abbrev pub IsFirstNames : Rules → Value → List (List ℕ) → Type 0
IsFirstNames r v names = (path : Path) × (w : SchemaWord) × IsFirst r v path w × (names ≡ reverse (names_of path))

-- the first word that a value fails by itself
abbrev pub IsFirstHere : Words → Value → Option SchemaWord → Type 0
IsFirstHere words v None = (w : SchemaWord) → ¬ (FailsHere words v w)
IsFirstHere words v (Some w) =
    FailsHere words v w × ((x : SchemaWord) → turn_of x < turn_of w → ¬ (FailsHere words v x))
