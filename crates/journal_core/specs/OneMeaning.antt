-- The law that each file has one meaning.
use Rattle.std.specs.Prelude.{◌≡◌, ℕ, List}
use Rattle.journal_core.specs.File.{Meaning, Means}
use Rattle.journal_core.specs.declared.layout.Format.{Format}

-- In each format each file holds exactly one list, or meets exactly one refusal, whether its numbers are bytes or not.
abbrev pub EachFileHasOneMeaning : Type 0
EachFileHasOneMeaning = (format : Format) (file : List ℕ)
    → (meaning : Meaning) × Means format file meaning × ((other : Meaning) → Means format file other → other ≡ meaning)
