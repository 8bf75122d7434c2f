use Rattle.doip_segment.proofs.SessionLemmas.{session_framed, session_ends, sessions_same}
use Rattle.doip_segment.proofs.laws.pieces_do_not_matter.Goals as goal

pub returns-clause-framed : goal.returns-clause-framed
returns-clause-framed c = session_framed

pub returns-clause-ends : goal.returns-clause-ends
returns-clause-ends c = session_ends

pub returns-clause-same : goal.returns-clause-same
returns-clause-same c = sessions_same
