-- Records as a journal has them, and the changes that they stand for.
use Rattle.std.specs.Prelude.{◌≡◌, List, [], ◌∷◌, ⊤}
use Rattle.journal_core.specs.declared.records.Record.{Record}
use Rattle.record_core.specs.declared.format.Format.{Format}
use Rattle.record_core.specs.Reading.{IsBodyOf}
use Rattle.repo_state.specs.Contents.{Stamped}

-- the record has the stamp of the change, and its body is the change's in this format
pub record IsRecordOf (format : Format) (r : Record) (s : Stamped) : Type 0 where
  pub stamp : r.stamp ≡ s.stamp
  pub body : IsBodyOf format r.body s.change

-- as many records as changes, each that of the change in its place
abbrev pub AreRecordsOf : Format → List Record → List Stamped → Type 0
AreRecordsOf format [] [] = ⊤
AreRecordsOf format [] (s ∷ ss) = ⊥
AreRecordsOf format (r ∷ rs) [] = ⊥
AreRecordsOf format (r ∷ rs) (s ∷ ss) = IsRecordOf format r s × AreRecordsOf format rs ss
