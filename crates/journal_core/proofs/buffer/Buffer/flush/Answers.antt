use Rattle.std.proofs.Common.{◌≡◌, ℕ, List, length, take, Some, ◌∙◌, ap, subst}
use Rattle.disk_core.specs.Disk.{written, Torn}
use Rattle.disk_core.specs.Runs.{Run}
use Rattle.journal_core.specs.Buffer.{held_in}
use Rattle.journal_core.proofs.Writing.{one_write, writes_failed}
use Rattle.journal_core.proofs.buffer.Buffer.flush.Goals as goal

pub returns-in_err-write_at-clause-writes : goal.returns-in_err-write_at-clause-writes
returns-in_err-write_at-clause-writes g c =
    let state = g.D.Disk.state in
    let was = c.args.self.now in
    let write = one_write (state c.args.disk.now) (state c.write_at.new.self) was.start _ _ c.write_at.ensures in
    let same : take was.count c.deref.result.now ≡ held_in was = ap (take was.count) c.deref.ensures.value in
    writes_failed (state c.args.disk.now) (state c.write_at.new.self) was.start (held_in was) _ c.from_residual.ensures.0
    (subst (λ (l : List ℕ). Run (state c.args.disk.now) (state c.write_at.new.self) (Torn was.start (length l))) same write.crash) write.clock write.cause.later c.in_err-write_at.ensures.cause.failed

pub returns-clause-writes : goal.returns-clause-writes
returns-clause-writes g c =
    let state = g.D.Disk.state in
    let was = c.args.self.now in
    let write = one_write (state c.args.disk.now) (state c.write_at.new.self) was.start _ _ c.in_ok-write_at.ensures in
    let same : take was.count c.deref.result.now ≡ held_in was = ap (take was.count) c.deref.ensures.value in
    record {
      puts = λ file is. write.puts file is ∙ ap (λ (l : List ℕ). Some (written was.start l file)) same;
      crash = subst (λ (l : List ℕ). Run (state c.args.disk.now) (state c.write_at.new.self) (Torn was.start (length l))) same write.crash;
      clock = write.clock;
      cause = record { later = write.cause.later; failed = tt };
    }
