-- What comes of the changes of a journal. This project's own.
use Rattle.std.specs.Prelude.{◌≡◌, ℕ, List, take, Result, Ok, Err, None, Some, ⊤}
use Rattle.std.specs.List.{slice_get}
use Rattle.journal_core.specs.declared.records.Record.{Record}
use Rattle.journal_core.specs.declared.records.Stamp.{Stamp}
use Rattle.record_core.specs.declared.change.Change.{Change}
use Rattle.record_core.specs.declared.change.RecordFault.{RecordFault}
use Rattle.record_core.specs.declared.change.RecordFault.TheVariants as record_fault
use Rattle.record_core.specs.declared.format.Format.{Format}
use Rattle.record_core.specs.Reading.{IsBodyOf}
use Rattle.repo_state.specs.Contents.{Contents, Stamped, contents, apply, replay}
use Rattle.repo_state.specs.Held.{Held}
use Rattle.repo_state.specs.Recorded.{AreRecordsOf}
use Rattle.repo_state.specs.Sound.{least_unsound}
use Rattle.repo_state.specs.declared.replay.ReplayFault.{ReplayFault}
use Rattle.repo_state.specs.declared.replay.ReplayFault.TheVariants.{NotARecord, Unsound, Memory}

-- The fault that is reported of changes is there: the least object that isn't sound among all, or out of memory.
abbrev pub IsFaultOf : Contents → ReplayFault → Type 0
IsFaultOf c (NotARecord index) = ⊥
IsFaultOf c (Unsound id) = least_unsound c.objects ≡ Some id
IsFaultOf c Memory = ⊤

-- these bytes are the body of no change
abbrev pub IsNoBody : Format → List ℕ → Type 0
IsNoBody format bytes = (change : Change) → IsBodyOf format bytes change → ⊥

-- The change of this body is made under the stamp; or the bytes are the body of no change, unless memory ran out, and
-- nothing is made.
abbrev pub Takes : {T : Type 0} → Format → Stamp → List ℕ → Contents → Contents → Result T RecordFault → Type 0
Takes format stamp body old new (Ok done) =
    (change : Change) × IsBodyOf format body change × (new ≡ apply (record { stamp = stamp; change = change }) old)
Takes format stamp body old new (Err record_fault.NotARecord) = IsNoBody format body × (new ≡ old)
Takes format stamp body old new (Err record_fault.Memory) = new ≡ old

-- contents of a journal of format 1, whose changes have no number: they count as one change
abbrev pub migrated : Contents → Contents
migrated c = contents c.objects c.counter 1

-- the record at this place is the first whose body is that of no change
pub record IsFirstOther (format : Format) (records : List Record) (place : ℕ) : Type 0 where
  pub before : List Stamped
  pub are : AreRecordsOf format (take place records) before
  pub other : Record
  pub there : slice_get records place ≡ Some other
  pub is : IsNoBody format other.body

-- records of changes, and what a replay of these gives
pub record AreReplayed (format : Format) (records : List Record) (c : Contents) : Type 0 where
  pub changes : List Stamped
  pub are : AreRecordsOf format records changes
  pub gives : c ≡ replay changes

-- The contents that the changes of these records give; or the first record of no change, unless memory ran out.
abbrev pub Gives : Format → List Record → Result Contents ReplayFault → Type 0
Gives format records (Ok c) = AreReplayed format records c
Gives format records (Err (NotARecord place)) = IsFirstOther format records place
Gives format records (Err (Unsound id)) = ⊥
Gives format records (Err Memory) = ⊤

-- A table of the contents that the changes of these records give, all objects of which are sound; or the least
-- identifier of an object that isn't; or the first record of no change, unless memory ran out.
abbrev pub Opens : Format → (Contents → Contents) → List Record → Result Held ReplayFault → Type 0
Opens format made records (Ok table) = (c : Contents) × AreReplayed format records c × (least_unsound c.objects ≡ None)
    × (table.contents ≡ made c)
Opens format made records (Err (NotARecord place)) = IsFirstOther format records place
Opens format made records (Err (Unsound id)) = (c : Contents) × AreReplayed format records c
    × (least_unsound c.objects ≡ Some id)
Opens format made records (Err Memory) = ⊤
