use Rattle.lane_server.proofs.StateLemmas.{longer}
use Rattle.lane_server.proofs.laws.sessions_stay_in_longer_histories.Goals as goal

pub returns : goal.returns
returns g c = longer g.L.Link.state
