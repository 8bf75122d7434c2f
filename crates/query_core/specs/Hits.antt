-- The hits of a search, as a set of objects, and the lists that have them. This project's own.
use Rattle.std.specs.Prelude.{◌≡◌, ◌≢◌, List, Bool, true}
use Rattle.std.specs.List.{AllPairs, Contains}
use Rattle.dobj_model.specs.declared.object.ObjectValue.{ObjectValue}
use Rattle.query_text.specs.Query.{Disjunction}
use Rattle.query_core.specs.Meaning.{holds}

-- the object is one of those there are, it may be read, and the query holds of it
abbrev pub IsHit : (ObjectValue → Type 0) → (ObjectValue → Bool) → Disjunction → ObjectValue → Type 0
IsHit Exists may_read query object = Exists object × (may_read object ≡ true) × (holds query object ≡ true)

-- no two of the objects have one identifier
abbrev pub AreApart : List ObjectValue → Type 0
AreApart objects = AllPairs (λ a b. a.id ≢ b.id) objects

-- the list has each hit once and no others, in whatever order
pub record AreTheHits (Hit : ObjectValue → Type 0) (hits : List ObjectValue) : Type 0 where
  pub all : (object : ObjectValue) → Hit object → Contains hits object
  pub only : (object : ObjectValue) → Contains hits object → Hit object
  pub apart : AreApart hits
