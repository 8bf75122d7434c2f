-- What the turns of a session add to the pass of its lane, and the pairs of a session. This project's own.
use Rattle.std.specs.Prelude.{◌≡◌, ℕ, List, [], ◌∷◌, ◌++◌, Bool, ◌&&◌, nat_eq}
use Rattle.doip_message.specs.Pairs.{Pair}
use Rattle.history_lock.specs.declared.board.Entered.{Entered}
use Rattle.history_lock.specs.declared.board.Share.{Share}
use Rattle.history_lock.specs.declared.pass.Pass.{Pass}
use Rattle.history_lock.specs.declared.turned.Turned.{Ghosts}
use Rattle.history_lock.specs.History.{entries_by, share_of}
use Rattle.history_lock.specs.Passes.{lock_of, seen, shares, number}
use Rattle.repo_step.specs.History.{Entry, pairs_where}
use Rattle.repo_step.specs.Laws.{IsAllOf}
use Rattle.lane_server.specs.Turns.{Start}

-- the turn was taken by the pass of this number, for this session
abbrev pub is_by : ℕ → ℕ → Entered Entry → Bool
is_by number session t = nat_eq t.by number && nat_eq t.entry.session session

-- The pairs of one session of the pass with this number: of each of its turns in the history the message and the text of
-- the reply, in the state that all turns before it left.
abbrev pub pairs_by : Start → ℕ → ℕ → List (Entered Entry) → List Pair
pairs_by start number session history =
    pairs_where start.setting (λ t. t.entry) (is_by number session) start.first history

-- the shares with these entries more under the first number
abbrev pub with_more : List Entry → List (Share Entry) → List (Share Entry)
with_more more [] = []
with_more more (s ∷ ss) = share_of s.number (s.own ++ more) ∷ ss

-- From one state of a lane's pass to a later one: it has seen more turns, of which its own are of this session alone, and
-- its own list has grown by these.
pub record Grew {T C R : Type 0} {g : Ghosts T C R Entry} (lane session : ℕ)
    (before after : Pass T C R Entry g) : Type 0 where
  pub lock : lock_of after ≡ lock_of before
  pub more : List (Entered Entry)
  pub has_seen : seen after ≡ seen before ++ more
  pub has_own : shares after ≡ with_more (entries_by (number before) more) (shares before)
  pub only : IsAllOf lane session (entries_by (number before) more)
