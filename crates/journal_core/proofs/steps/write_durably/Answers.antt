use Rattle.std.proofs.Common.{arith}
use Rattle.disk_core.proofs.RunLaws.{reported, syncs_then}
use Rattle.journal_core.proofs.Writing.{one_write, durably_failed, then_sync}
use Rattle.journal_core.proofs.steps.write_durably.Goals as goal

pub returns-in_err-write_at-clause-writes : goal.returns-in_err-write_at-clause-writes
returns-in_err-write_at-clause-writes g c =
    let write = one_write _ _ _ _ _ c.write_at.ensures in
    durably_failed _ _ _ _ _ c.from_residual.ensures.0 write.crash write.clock write.cause.later c.in_err-write_at.ensures.cause.failed

pub returns-clause-writes : goal.returns-clause-writes
returns-clause-writes g c =
    let write = one_write _ _ _ _ _ c.in_ok-write_at.ensures in
    then_sync _ _ _ _ _ c.sync.result write.puts write.crash write.clock write.cause.later c.sync.ensures

pub returns-clause-syncs : goal.returns-clause-syncs
returns-clause-syncs g c = λ last now.
    let state = g.D.Disk.state in
    let mid = reported (state c.write_at.new.self).content (c.sync.ensures.reported last now) in
    let ended = c.sync.ensures.moves.crash last now in
    syncs_then (state c.args.disk.now) (state c.write_at.new.self) (state c.sync.new.self) _ c.write_at.ensures.moves.clock
    (λ moment ends. omega (arith, ends.1, ended.later)) (c.write_at.ensures.moves.syncs mid.0 mid.1) (c.sync.ensures.moves.syncs last now)

pub returns-clause-later : goal.returns-clause-later
returns-clause-later g c = λ last now. omega (arith, c.write_at.ensures.moves.clock, (c.sync.ensures.moves.crash last now).later)
