use Rattle.lane_server.proofs.AdmissionLemmas.{law}
use Rattle.lane_server.proofs.laws.doors_admit_in_order.Goals as goal

pub returns : goal.returns
returns g c = law g.Li.Link.Link.state g.Li.Listener.state
