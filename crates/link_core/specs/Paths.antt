-- The files of a host in memory, as contracts see them.
use Rattle.std.specs.Prelude.{ℕ, String, List, map}
use Rattle.std.specs.Global.{Global}
use Rattle.std.specs.String.{string_bytes}

-- the paths and the bytes of the files of a map
abbrev pub files_in : List (String Global × List ℕ) → List (List ℕ × List ℕ)
files_in entries = map (λ e. (string_bytes e.0, e.1)) entries
