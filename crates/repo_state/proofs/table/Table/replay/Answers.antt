use Rattle.std.proofs.Common.{refl}
use Rattle.record_core.specs.declared.format.Format.TheVariants.{Second}
use Rattle.repo_state.proofs.RecordLemmas.{opens}
use Rattle.repo_state.proofs.table.Table.replay.Goals as goal

pub returns : goal.returns
returns c =
    opens Second (λ c. c) c.args.records.now c.in_ok-replayed.field-0 c.in_ok-replayed.field-0 c.finish.result
    c.in_ok-replayed.ensures refl refl c.finish.ensures.table c.finish.ensures.sound c.finish.ensures.fault
