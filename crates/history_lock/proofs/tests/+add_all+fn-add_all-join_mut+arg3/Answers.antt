use base.Fraction.{full_share}
use denote.Builtin.{u64}
use denote.Param.Send.{IsSend, IsSync, sendable, param_send, part_keyless}
use Rattle.history_lock.specs.contracts.pass.Pass as pass
use Rattle.history_lock.specs.contracts.counter.Counter as counter
use Rattle.history_lock.specs.contracts.counter.CounterTurned.TheImpl.{ghosts}
use Rattle.history_lock.proofs.Crossing.{pass_send, lock_sync}
use Rattle.history_lock.proofs.tests.+add_all+fn-add_all-join_mut+arg3.Lts-add_all as named
use Rattle.history_lock.proofs.tests.+add_all+fn-add_all-join_mut+arg3.Goals as goal

pub join_mut-requires-send-F : goal.join_mut-requires-send-F
join_mut-requires-send-F g t c κs within =
    let r : IsSync g.row.R = search sendable in
    let own : IsSend counter.the_row = search sendable in
    let lock = lock_sync counter.the_row u64 u64 u64 ghosts own in
    let moves = pass_send counter.the_row u64 u64 u64 ghosts own in
    let all : IsSend (named.arg-2-1 g.row.R g.R.laws g.R.Threads-dict g.R.Wait-dict κs) = record {
      owned = λ d vs. λ ls. (tt, ((tt, r.shared d.0.now d.0.ref_ptr.0 d.0.ref_ptr.1 _), ((tt, lock.shared d.1.now d.1.ref_ptr.0 d.1.ref_ptr.1 _), ((tt, (tt, λ y. (part_keyless (pass.the_row counter.the_row u64 u64 u64 ghosts) moves full_share y d.2.ref_ptr.0 d.2.ref_ptr.1, tt))), tt))));
      leaving = λ k f vs. (tt, (tt, (tt, tt)));
    } in
    param_send 1 (named.arg-2-1 g.row.R g.R.laws g.R.Threads-dict g.R.Wait-dict κs) all
