use Rattle.std.specs.Prelude.{◌≡◌}
use Rattle.history_lock.specs.History.{own_of}
use Rattle.history_lock.specs.Passes.{first_of, id_of, shares}
use Rattle.lane_server.specs.Admitting.{failures}
use Rattle.lane_server.specs.Lanes.{LaneState, terms}
use Rattle.lane_server.specs.Turns.{start_of}
use Rattle.lane_server.proofs.lane.serve_lane.Given as goal

-- the sessions so far were served, on the links that were accepted so far
abbrev pub invariant-loop : goal.invariant-loop
invariant-loop g l = record {
  limits : l.buffers.decoder.limits ≡ l.fn.limits;
  lane : LaneState g.Li.Link.Link.state
      (terms l.fn.limits (start_of g.C.Clock.given g.P.Planner.setting (first_of l.store))) l.lane (id_of l.store)
      (id_of l.door) l.pass l.taker l.sessions.items;
  faultless : failures (own_of (shares l.taker)) ≡ 0;
}
