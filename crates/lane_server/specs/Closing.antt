-- A session on a link that was closed after it. This project's own.
use Rattle.std.specs.Prelude.{◌≡◌, ℕ, List, Some}
use Rattle.link_core.specs.Link.{LinkState, Closes}
use Rattle.doip_segment.specs.declared.outcome.Limits.{Limits}
use Rattle.doip_message.specs.Pairs.{Pair}
use Rattle.session_core.specs.Session.{Served}
use Rattle.session_core.specs.declared.end.SessionEnd.{SessionEnd}

-- A session was served on a link, which was then closed. Between the two the link was in some state.
pub record ServedAndClosed (limits : Limits) (old new : List Pair) (before after : LinkState)
    (end : SessionEnd) : Type 0 where
  pub ended : LinkState
  pub served : Served limits old new before ended end
  pub closes : Closes ended after

-- Where the link reports what is left to read, closing it changes nothing of its session.
abbrev pub LawOfClosing : Type 0
LawOfClosing = (limits : Limits) (old new : List Pair) (before after : LinkState) (end : SessionEnd) (input : List ℕ)
    → before.left ≡ Some input → ServedAndClosed limits old new before after end
    → Served limits old new before after end
