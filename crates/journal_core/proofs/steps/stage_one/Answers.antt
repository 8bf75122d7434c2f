use Rattle.std.proofs.Common.{List, ℕ, sym, subst}
use Rattle.journal_core.specs.Steps.{WritesDurably}
use Rattle.journal_core.proofs.Writing.{then_sync}
use Rattle.journal_core.proofs.Written.{staged_one}
use Rattle.journal_core.proofs.steps.stage_one.Goals as goal

pub returns : goal.returns
returns g c =
    let stage = c.in_ok-stage.ensures in
    subst (λ (l : List ℕ). WritesDurably (g.D.Disk.state c.args.disk.now) (g.D.Disk.state c.sync.new.self) c.args.place l c.sync.result) (sym (staged_one c.args.stamp c.args.body.now))
    (then_sync _ _ _ _ _ c.sync.result stage.puts stage.crash stage.clock stage.cause.later c.sync.ensures)
