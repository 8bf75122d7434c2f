-- What a contract sees of a lock and of its passes.
use Rattle.std.specs.Prelude.{◌≡◌, ℕ, List, [], ◌∷◌, ◌++◌, Option, Some, slice_get, vec_len, ◌+◌, ◌-◌}
use Rattle.atomic_table.specs.Seated.{TableId}
use Rattle.history_lock.specs.declared.board.Entered.{Entered}
use Rattle.history_lock.specs.declared.board.Share.{Share}
use Rattle.history_lock.specs.declared.lock.Shared.{Shared}
use Rattle.history_lock.specs.declared.turned.Turned.{Ghosts}
use Rattle.history_lock.specs.declared.pass.Pass.{Pass}
use Rattle.history_lock.specs.declared.pass.Passes.{Passes}
use Rattle.history_lock.specs.declared.pass.Record.{Record}
use Rattle.history_lock.specs.History.{entered, entries, share_of, number_of, own_of, grown, Leads, Runs}

-- Which lock it is, and the value that it was opened with.
abbrev pub LockId : Type 0 → Type 0
LockId T = TableId × Option T

module _ {T C R E : Type 0} where
  -- which lock it is
  abbrev pub id_of : Shared T C R E → LockId T
  id_of s = (s.table.shared.table_id, Some s.table.shared.key.first.value)

  -- the value that it was opened with
  abbrev pub first_of : Shared T C R E → T
  first_of s = s.table.shared.key.first.value

  -- how many passes it was opened with
  abbrev pub passes_of : Shared T C R E → ℕ
  passes_of s = s.table.shared.key.passes

  -- the one history of a lock that is closed
  abbrev pub past : Record T C R E → List (Entered E)
  past r = r.last.value.me.0.seen

  -- its numbers, each with the entries of the turns that were taken under it
  abbrev pub past_shares : Record T C R E → List (Share E)
  past_shares r = r.last.value.me.0.shares

module _ {T C R E : Type 0} {g : Ghosts T C R E} where
  -- the lock whose pass it is
  abbrev pub lock_of : Pass T C R E g → LockId T
  lock_of p = (p.seat.table_id, p.seat.me.0.first)

  -- the history that it has seen
  abbrev pub seen : Pass T C R E g → List (Entered E)
  seen p = p.seat.me.0.seen

  -- the numbers that it holds, its own first, each with the entries of the turns that were taken under it
  abbrev pub shares : Pass T C R E g → List (Share E)
  shares p = p.seat.me.0.shares

  -- its own number
  abbrev pub number : Pass T C R E g → ℕ
  number p = number_of (shares p)

  -- the entries of its own turns
  abbrev pub own : Pass T C R E g → List E
  own p = own_of (shares p)

  -- the lock whose passes they are
  abbrev pub lock_of_all : Passes T C R E g → LockId T
  lock_of_all ps = (ps.source.table_id, ps.source.me.0.first)

  -- how many there were
  abbrev pub all_of : Passes T C R E g → ℕ
  all_of ps = ps.all

  -- how many nobody has taken
  abbrev pub left_of : Passes T C R E g → ℕ
  left_of ps = vec_len ps.waiting

  -- how many were taken
  abbrev pub taken_of : Passes T C R E g → ℕ
  taken_of ps = all_of ps - left_of ps

  -- a pass of this lock with this number, which has seen nothing and has no entries
  abbrev pub IsFresh : LockId T → ℕ → Pass T C R E g → Type 0
  IsFresh id k p = (lock_of p ≡ id) × (seen p ≡ []) × (shares p ≡ share_of k [] ∷ [])

-- each pass has seen nothing and has its own number alone, of which the last is 0
abbrev pub AreDealt : {T C R E : Type 0} {g : Ghosts T C R E} → LockId T → ℕ → List (Pass T C R E g) → Type 0
AreDealt {T} {C} {R} {E} {g} id all ps =
    (k : ℕ) (p : Pass T C R E g) → slice_get ps k ≡ Some p
    → (p.seat.table_id ≡ id.0) × (p.seat.me.0.first ≡ id.1) × (p.seat.me.0.seen ≡ [])
    × (p.seat.me.0.shares ≡ share_of p.number [] ∷ []) × (p.number + (k + 1) ≡ all)

-- One turn of a pass. Between what it had seen and its entry are turns of others, the reply is that of the entry's
-- step on what the history left, and its own entries are one more.
pub record IsTurn {T C R E : Type 0} {g : Ghosts T C R E} (step : T → C → E → R → T → Type 0) (first : T)
    (before after : Pass T C R E g) (call : C) (reply : R) : Type 0 where
  pub between : List (Entered E)
  pub old : T
  pub entry : E
  pub new : T
  pub has_seen : seen after ≡ (seen before ++ between) ++ entered (number before) entry ∷ []
  pub led : Runs (Leads step) first (entries (seen before ++ between)) old
  pub stepped : step old call entry reply new
  pub leads : Runs (Leads step) first (entries (seen after)) new
  pub has_own : shares after ≡ grown entry (shares before)
