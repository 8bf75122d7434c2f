-- Two sessions over the same bytes.
use Rattle.std.specs.Prelude.{◌≡◌, ◌≢◌}
use Rattle.doip_segment.specs.declared.outcome.Limits.{Limits}
use Rattle.session_core.specs.Session.{Session, Transcript}
use Rattle.session_core.specs.declared.end.SessionEnd.{SessionEnd}
use Rattle.session_core.specs.declared.end.SessionEnd.TheVariants.{ReadFault, WriteFault}

-- Two sessions under the same limits read the same bytes.
pub record ReadTheSame (limits : Limits) (one other : Transcript) : Type 0 where
  pub first : Session limits one
  pub second : Session limits other
  pub bytes : one.read ≡ other.read

-- no call of the link ended the session
abbrev pub IsFaultless : SessionEnd → Type 0
IsFaultless end = (end ≢ ReadFault) × (end ≢ WriteFault)
