-- How objects are kept: rows of an identifier and its object, in any order.
use Rattle.std.specs.Prelude.{ℕ, List, map, String, string_bytes}
use Rattle.std.specs.FinMap as finite
use Rattle.std.specs.declared.alloc.Global.{Global}
use Rattle.dobj_model.specs.declared.object.ObjectValue.{ObjectValue}
use Rattle.repo_state.specs.Contents.{Objects}

-- an identifier and its object
abbrev pub Row : Type 0
Row = List ℕ × ObjectValue

-- the rows, and how many more find room
pub record Kept : Type 0 where
  pub rows : List Row
  pub spare : ℕ

-- the rows of a table's entries
abbrev pub rows_in : List (String Global × ObjectValue) → List Row
rows_in = map (λ e. (string_bytes e.0, e.1))

-- the objects that rows are
abbrev pub objects_in : List Row → Objects
objects_in rows = finite.from_entries rows
