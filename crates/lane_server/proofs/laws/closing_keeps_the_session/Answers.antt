use Rattle.lane_server.proofs.ClosingLemmas.{closed_session}
use Rattle.lane_server.proofs.laws.closing_keeps_the_session.Goals as goal

pub returns : goal.returns
returns c = closed_session
