use Rattle.std.proofs.Common.{take}
use Rattle.record_core.specs.declared.format.Format.TheVariants.{Second}
use Rattle.repo_state.specs.Recorded.{AreRecordsOf}
use Rattle.repo_state.proofs.compaction.Compacted.records.Given as goal

-- the records of the changes before this place
abbrev pub invariant-records : goal.invariant-records
invariant-records l = AreRecordsOf Second l.records (take l.place l.self)
