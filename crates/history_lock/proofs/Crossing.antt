-- A pass may go to another thread, and a lock may be shared, where the value may go to another thread.
use denote.RattleType.{RattleType}
use denote.Param.Send.{IsSend, IsSync, sendable}
use denote.Param.SendFields.{declared_send, declared_sync}
use Rattle.history_lock.specs.declared.turned.Turned.{Ghosts}
use Rattle.history_lock.specs.contracts.board.Slot as slot
use Rattle.history_lock.specs.contracts.board.View as view
use Rattle.history_lock.specs.contracts.pass.Pass as pass
use Rattle.history_lock.specs.contracts.pass.Passes as passes
use Rattle.history_lock.specs.contracts.lock.Shared as lock
use Rattle.history_lock.specs.contracts.places.Places as places
use Rattle.atomic_table.specs.contracts.shared.Seat as seat
use Rattle.atomic_table.proofs.shared.Seat.TheSendSync as seats
use Rattle.atomic_table.proofs.shared.Shared.TheSendSync as tables
use Rattle.atomic_table.proofs.send_lease.SendLease.TheSendSync as leases
use Rattle.std.proofs.alloc.Global.TheSendSync as heap
use Rattle.std.proofs.Crossing as crossing
use Rattle.atomic_table.specs.contracts.owned.Table as table
use Rattle.atomic_table.specs.contracts.send_lease.SendLease as lease
use Rattle.history_lock.specs.contracts.board.TurnsTableRuleSlotEntryViewEntryOrigin.TheImpl as rule
use Rattle.history_lock.specs.contracts.board.Origin as origin
use Rattle.history_lock.specs.contracts.board.Turns as turns
use Rattle.crossbeam_utils.specs.contracts.cache_padded.CachePadded as padded
use Rattle.crossbeam_utils.specs.contracts.sync.event_count.EventCount as event_count
use Rattle.std.proofs.sync.atomic.AtomicU64.TheSendSync as atomics
use Rattle.std.specs.contracts.alloc.Global as global
use Rattle.std.specs.contracts.impls.GlobalAllocator.TheImpl.{ghosts}
use denote.Builtin.{u64}

slot_send : (T E : RattleType) → IsSend T → IsSend (slot.the_row T E)
slot_send T E s = search sendable depth 20

seat_send : (T E : RattleType) → IsSend T → IsSend (seat.the_row (slot.the_row T E) (view.the_row T E))
seat_send T E s = seats.the_send _ _ (slot_send T E s)

pub pass_send : (T C R E : RattleType) (g : Ghosts T.Denot C.Denot R.Denot E.Denot) → IsSend T → IsSend (pass.the_row T C R E g)
pass_send T C R E g s = record { owned = λ d vs. λ ls. (tt, ((seat_send T E s).owned d.seat ls.0, ((tt, tt), tt))); leaving = λ k f vs. (tt, tt) }

pub passes_send : (T C R E : RattleType) (g : Ghosts T.Denot C.Denot R.Denot E.Denot) → IsSend T → IsSend (passes.the_row T C R E g)
passes_send T C R E g s = declared_send (passes.the_type T C R E g) (seat_send T E s, (crossing.Vec-send (pass.the_row T C R E g) (pass_send T C R E g s), (search sendable, tt)))

event_count_sync : IsSync event_count.the_row
event_count_sync = declared_sync event_count.the_type (atomics.the_sync, (atomics.the_sync, tt))

padded_sync : IsSync (padded.the_row event_count.the_row)
padded_sync = declared_sync (padded.the_type event_count.the_row) (search sendable, (event_count_sync, (search sendable, tt)))

places_sync : IsSync places.the_row
places_sync = declared_sync places.the_type (crossing.Vec-sync (padded.the_row event_count.the_row) padded_sync, tt)

pub lock_sync : (T C R E : RattleType) (g : Ghosts T.Denot C.Denot R.Denot E.Denot) → IsSend T → IsSync (lock.the_row T C R E g)
lock_sync T C R E g s =
    let own : IsSend (slot.the_row T E) = slot_send T E s in
    let parts = rule.ghosts T C R E g rule.no_dict in
    let t = table.the_type (slot.the_row T E) (view.the_row T E) (origin.the_row T) (turns.the_row T) global.the_row parts ghosts in
    let words : IsSync (lease.the_row u64 global.the_row ghosts) = leases.the_sync _ _ _ heap.the_send crossing.frees in
    let slots : IsSync (lease.the_row (slot.the_row T E) global.the_row ghosts) = leases.the_sync _ _ _ heap.the_send crossing.frees in
    let table_part = tables.the_sync (slot.the_row T E) (view.the_row T E) (origin.the_row T) (turns.the_row T) parts own in
    declared_sync (lock.the_type T C R E g) (declared_sync t (table_part, (search sendable, (search sendable, (words, (slots, (heap.the_sync, tt)))))), (places_sync, tt))
