-- What the repository holds, and what a change makes of it. This project's own.
use Rattle.std.specs.Prelude.{ℕ, List, fold, unwrap_or}
use Rattle.std.specs.FinMap as map
use Rattle.dobj_model.specs.declared.object.ObjectValue.{ObjectValue}
use Rattle.journal_core.specs.declared.records.Stamp.{Stamp}
use Rattle.record_core.specs.declared.change.Change.{Change}
use Rattle.record_core.specs.declared.change.Change.TheVariants.{Put, Remove, Counter}
use Rattle.repo_state.specs.Least.{id_cmp}

-- objects by their identifiers
abbrev pub Objects : Type 0
Objects = map.FinMap id_cmp ObjectValue

-- the objects, the counter of minted identifiers, and the number of the last change
pub record Contents : Type 0 where
  pub objects : Objects
  pub counter : ℕ
  pub number : ℕ

-- contents of these parts
abbrev pub contents : Objects → ℕ → ℕ → Contents
contents objects counter number = record { objects = objects; counter = counter; number = number }

-- a repository begins with no object, counts from 1, and was never changed
abbrev pub no_contents : Contents
no_contents = contents map.empty 1 0

-- the objects after a change: a put adds the object or replaces that of its identifier
abbrev pub objects_after : Change → Objects → Objects
objects_after (Put object counter) objects = map.insert objects object.id object
objects_after (Remove id) objects = map.remove objects id
objects_after (Counter n) objects = objects

-- the counter after a change
abbrev pub counter_after : Change → ℕ → ℕ
counter_after (Put object counter) before = unwrap_or counter before
counter_after (Remove id) before = before
counter_after (Counter n) before = n

-- a change with its number and its time
pub record Stamped : Type 0 where
  pub stamp : Stamp
  pub change : Change

-- the contents after a change: their number is the change's
abbrev pub apply : Stamped → Contents → Contents
apply s before =
    contents (objects_after s.change before.objects) (counter_after s.change before.counter) s.stamp.number

-- the contents after changes, one after another, from none
abbrev pub replay : List Stamped → Contents
replay = fold (λ before s. apply s before) no_contents
