-- A table as contracts see it: the contents, and what was made ready for the next change.
use Rattle.std.specs.Prelude.{◌≡◌, ◌<◌, ℕ, List, Option, Some, ⊤}
use Rattle.record_core.specs.declared.change.Change.{Change}
use Rattle.record_core.specs.declared.change.Change.TheVariants.{Put, Remove, Counter}
use Rattle.repo_state.specs.Contents.{Contents}

-- how many more objects find room, and the identifier that was copied for one
pub record Room : Type 0 where
  pub spare : ℕ
  pub id : Option (List ℕ)

-- the contents, and the room made for a change
pub record Held : Type 0 where
  pub contents : Contents
  pub room : Room

-- room was made for this change
abbrev pub HasRoom : Change → Room → Type 0
HasRoom (Put object counter) room = (0 < room.spare) × (room.id ≡ Some object.id)
HasRoom (Remove id) room = ⊤
HasRoom (Counter n) room = ⊤
