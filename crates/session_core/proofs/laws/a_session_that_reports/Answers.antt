use Rattle.session_core.proofs.Transcripts.{transcribed}
use Rattle.session_core.proofs.laws.a_session_that_reports.Goals as goal

pub returns : goal.returns
returns c = transcribed
