-- Which changes can be recorded (the limits are this project's own).
use Rattle.std.specs.Prelude.{◌≡◌, ℕ, ◌^◌, ◌≤◌, Option, None, Some, IsUtf8, ⊤}
use Rattle.std.specs.List.{AllByRecursion}
use Rattle.doip_json.specs.Sound.{IsSound}
use Rattle.dobj_model.specs.declared.object.ObjectValue.{ObjectValue}
use Rattle.dobj_model.specs.Name.{IsName}
use Rattle.dobj_model.specs.Object.{IsObject}
use Rattle.dobj_model.specs.Shown.{shown_form}
use Rattle.record_core.specs.declared.change.Change.{Change}
use Rattle.record_core.specs.declared.change.Change.TheVariants.{Put, Remove, Counter}
use Rattle.record_core.specs.declared.format.Format.{Format}
use Rattle.record_core.specs.declared.format.Format.TheVariants.{First, Second}

-- a counter of minted identifiers
abbrev pub IsCounter : ℕ → Type 0
IsCounter n = (1 ≤ n) × (n ≤ 2 ^ 62)

-- no counter, or one
abbrev pub IsCounterIfThere : Option ℕ → Type 0
IsCounterIfThere None = ⊤
IsCounterIfThere (Some n) = IsCounter n

-- a change that can be recorded: its counter is in range, and every object is fine by its own invariant
abbrev pub IsStorable : Change → Type 0
IsStorable (Put o counter) = IsCounterIfThere counter
IsStorable (Remove id) = ⊤
IsStorable (Counter n) = IsCounter n

-- What is true of the plain data of every `Object`: it keeps what objects keep, its strings are UTF-8 and its keys
-- ascend, and its names have 1 to 255 bytes.
pub record IsKept (o : ObjectValue) : Type 0 where
  pub object : IsObject o
  pub sound : IsSound (shown_form o)
  pub id : IsName o.id
  pub type_name : IsName o.type_name
  pub elements : AllByRecursion (λ e. IsName e.id) o.elements

-- What is true of the plain data of every `Change`.
abbrev pub IsChange : Change → Type 0
IsChange (Put o counter) = IsKept o
IsChange (Remove id) = IsName id × IsUtf8 id
IsChange (Counter n) = ⊤

-- in format 1 the times of an object are unknown
abbrev pub HasTimesOf : Format → ObjectValue → Type 0
HasTimesOf First o = (o.metadata.created_on ≡ 0) × (o.metadata.modified_on ≡ 0)
HasTimesOf Second o = ⊤

-- a change that the format can say
abbrev pub IsOf : Format → Change → Type 0
IsOf format (Put o counter) = HasTimesOf format o
IsOf format (Remove id) = ⊤
IsOf format (Counter n) = ⊤
