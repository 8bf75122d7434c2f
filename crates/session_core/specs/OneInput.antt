-- Two sessions over one input. This project's own.
use Rattle.std.specs.Prelude.{◌≡◌, ◌++◌}
use Rattle.doip_segment.specs.declared.outcome.Limits.{Limits}
use Rattle.session_core.specs.Session.{Session, Transcript}
use Rattle.session_core.specs.Cuts.{IsFaultless}

-- Two sessions under the same limits, whose links held the same input, and of which no call of a link failed.
pub record ReadOneInput (limits : Limits) (one other : Transcript) : Type 0 where
  pub first : Session limits one
  pub second : Session limits other
  pub input : one.read ++ one.unread ≡ other.read ++ other.unread
  pub first_faultless : IsFaultless one.end
  pub second_faultless : IsFaultless other.end
