-- The shortest list of changes that gives contents, which a compacted journal holds. This project's own.
use Rattle.std.specs.Prelude.{◌≡◌, ℕ, List, ◌∷◌, map, None, Some}
use Rattle.std.specs.List.{slice_get}
use Rattle.std.specs.FinMap as finite
use Rattle.dobj_model.specs.declared.object.ObjectValue.{ObjectValue}
use Rattle.journal_core.specs.declared.records.Record.{Record}
use Rattle.record_core.specs.declared.change.Change.TheVariants.{Put, Counter}
use Rattle.record_core.specs.declared.format.Format.TheVariants.{Second}
use Rattle.repo_state.specs.Contents.{Stamped, Contents}
use Rattle.repo_state.specs.Recorded.{IsRecordOf}

-- the counter, at the unknown time
abbrev pub counter_at : ℕ → ℕ → Stamped
counter_at number counter = record { stamp = record { number = number; time = 0 }; change = Counter counter }

-- an object, at the time of its last change: a put that mints no identifier
abbrev pub object_at : ℕ → ObjectValue → Stamped
object_at number o =
    record { stamp = record { number = number; time = o.metadata.modified_on }; change = Put o None }

-- the counter, and then objects, all with one number
abbrev pub listed : ℕ → ℕ → List ObjectValue → List Stamped
listed number counter objects = counter_at number counter ∷ map (object_at number) objects

-- the counter, and then each object by ascending identifier, all with the number of the contents
abbrev pub compacted : Contents → List Stamped
compacted c = listed c.number c.counter (finite.values c.objects)

-- the record of the change at this place
pub record IsRecordAt (changes : List Stamped) (place : ℕ) (r : Record) : Type 0 where
  pub change : Stamped
  pub there : slice_get changes place ≡ Some change
  pub is : IsRecordOf Second r change
