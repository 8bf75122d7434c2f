-- What no turn of a session changes. This project's own.
use Rattle.std.specs.Prelude.{ℕ, List}
use base.Fml.{GName}
use Rattle.disk_core.specs.declared.disk.Disk.{Ghosts}
use Rattle.history_lock.specs.declared.board.Entered.{Entered}
use Rattle.history_lock.specs.declared.board.Share.{Share}
use Rattle.history_lock.specs.Passes.{LockId}
use Rattle.repo_step.specs.History.{Entry}
use Rattle.repo_store.specs.declared.store.Store.{Store}

-- the lane and the session, the lock with its first value, the reference to the pass, and what the pass had seen and held
-- when the session began
pub record Seat (D C P : Type 0) (g : Ghosts D) : Type 0 where
  pub lane : ℕ
  pub session : ℕ
  pub lock : LockId (Store D C P g)
  pub first : Store D C P g
  pub pass : GName
  pub lock_first : LockId (Store D C P g)
  pub seen_first : List (Entered Entry)
  pub shares_first : List (Share Entry)
