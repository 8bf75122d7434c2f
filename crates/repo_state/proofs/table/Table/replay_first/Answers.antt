use Rattle.std.proofs.Common.{ap}
use Rattle.record_core.specs.declared.format.Format.TheVariants.{First}
use Rattle.repo_state.specs.Replayed.{migrated}
use Rattle.repo_state.proofs.RecordLemmas.{opens}
use Rattle.repo_state.proofs.table.Table.replay_first.Goals as goal

pub returns : goal.returns
returns c =
    opens First migrated c.args.records.now c.in_ok-replayed.field-0 c.migrated.result c.finish.result
    c.in_ok-replayed.ensures c.migrated.ensures (ap (λ d. d.objects) c.migrated.ensures)
    c.finish.ensures.table c.finish.ensures.sound c.finish.ensures.fault
