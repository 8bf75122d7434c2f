use Rattle.std.proofs.Common.{◌∙◌, sym, arith, Some}
use Rattle.repo_state.proofs.tests.is_put.Goals as goal

pub install-requires-clause-consistent : goal.install-requires-clause-consistent
install-requires-clause-consistent c =
    c.changes_keep_consistency.ensures.put c.reserve.new.self.contents (record { number = c.args.number; time = 0 })
    c.args.object (Some 9) c.counter.ensures.consistent
    (sym (c.is_sound-is_plain.ensures c.reserve.new.self.contents.objects) ∙ c.if-is_plain.true)
    (omega arith, omega arith)
