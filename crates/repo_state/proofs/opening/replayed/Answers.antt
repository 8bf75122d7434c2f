use Rattle.std.proofs.Common.{sym, subst}
use Rattle.record_core.specs.Reading.{IsBodyOf}
use Rattle.repo_state.proofs.RecordLemmas.{next_change}
use Rattle.repo_state.proofs.opening.replayed.Goals as goal

pub records-preserved : goal.records-preserved
records-preserved c =
    let taken = c.in-Ok.ensures in
    let body = subst (λ bytes. IsBodyOf c.args.format bytes taken.0) c.get.ensures taken.1 in
    next_change c.args.format c.args.records.now c.records.index c.item-record.result.now _ _ taken.0
    c.records.invariant (sym c.item-record.ensures) body taken.2
