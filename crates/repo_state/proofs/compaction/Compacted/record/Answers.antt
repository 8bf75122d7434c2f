use Rattle.std.proofs.Common.{◌≡◌, ◌+◌, ◌-◌, IfOk, subst, arith}
use Rattle.repo_state.specs.Compacted.{IsRecordAt}
use Rattle.repo_state.proofs.RecordLemmas.{object_there}
use Rattle.repo_state.proofs.compaction.Compacted.record.Goals as goal

pub returns-else-place-eq0 : goal.returns-else-place-eq0
returns-else-place-eq0 c =
    let last : c.args.place - 1 + 1 ≡ c.args.place = omega (arith, c.if-place-eq0.false) in
    subst (λ n. IfOk c.object_record.result (IsRecordAt c.args.self.now n)) last
    (object_there _ _ _ _ (c.args.place - 1) _ _ c.self.view_is (omega (arith, last, c.requires)) c.index.ensures
    c.object_record.ensures)
