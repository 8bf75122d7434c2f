use Rattle.std.proofs.Common.{◌+◌, take, sym, subst}
use Rattle.record_core.specs.declared.format.Format.TheVariants.{Second}
use Rattle.repo_state.specs.Recorded.{AreRecordsOf}
use Rattle.repo_state.proofs.RecordLemmas.{next_record}
use Rattle.repo_state.proofs.compaction.Compacted.records.Goals as goal

pub records-preserved : goal.records-preserved
records-preserved c =
    let at = c.in_ok-record.ensures in
    subst (λ rs. AreRecordsOf Second rs (take (c.records.place + 1) c.args.self.now)) (sym c.in_ok-push.ensures.ok)
    (next_record Second c.records.records c.args.self.now c.records.place c.in_ok-record.field-0 at.change
    c.records.invariant at.there at.is)
