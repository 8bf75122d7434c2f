use Rattle.lane_server.proofs.TurnLemmas.{law}
use Rattle.lane_server.proofs.laws.turns_of_a_lock_are_turns.Goals as goal

pub returns : goal.returns
returns g c = law g.D.Disk g.C.Clock.given g.P.Planner.setting
