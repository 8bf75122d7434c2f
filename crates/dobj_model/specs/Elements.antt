-- What the elements of an object keep (the limits are this project's own).
use Rattle.std.specs.Prelude.{◌≢◌, ℕ, ◌^◌, ◌<◌, ◌≤◌, List, length, map, All, AllPairs}
use Rattle.dobj_model.specs.declared.elements.Element.{Element}

-- the most elements of an object
abbrev pub most_elements : ℕ
most_elements = 1000

-- an element has fewer bytes
abbrev pub element_bound : ℕ
element_bound = 10 ^ 10

-- the identifiers, in order
abbrev pub ids_of : List Element → List (List ℕ)
ids_of = map (λ e. e.id)

-- elements that one object may have
pub record AreElements (elements : List Element) : Type 0 where
  pub few : length elements ≤ most_elements
  pub small : All (λ e. length e.bytes < element_bound) elements
  pub differ : AllPairs (λ a b. a ≢ b) (ids_of elements)
