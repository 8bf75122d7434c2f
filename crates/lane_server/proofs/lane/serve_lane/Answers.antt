use Rattle.std.proofs.Common.{sym, ◌∙◌}
use Rattle.history_lock.specs.Passes.{first_of}
use Rattle.lane_server.specs.Lanes.{terms}
use Rattle.lane_server.specs.Turns.{start_of}
use Rattle.lane_server.proofs.StateLemmas.{fresh_state, with_limits}
use Rattle.lane_server.proofs.lane.serve_lane.Goals as goal

pub loop-init : goal.loop-init
loop-init g c =
    let t = terms c.args.limits (start_of g.C.Clock.given g.P.Planner.setting (first_of c.args.store.now)) in
    let s = fresh_state g.Li.Link.Link.state t c.args.lane _ _ c.args.pass.now c.args.taker.now c.args.sessions.now.items
    c.requires.pass c.requires.taker c.requires.none in
    record { limits = c.in-Ok.ensures; lane = s.0; faultless = s.1 }

pub loop-preserved : goal.loop-preserved
loop-preserved g c =
    let start = start_of g.C.Clock.given g.P.Planner.setting (first_of c.args.store.now) in
    record {
      limits = c.in-Ok-serve_next.ensures.limits ∙ c.loop.invariant.limits;
      lane = with_limits g.Li.Link.Link.state start c.args.lane _ _ c.serve_next.new.pass c.serve_next.new.taker
          c.serve_next.new.sessions.items _ _ c.loop.invariant.limits c.serve_next.ensures.lane;
      faultless = c.in-Ok-serve_next.ensures.faultless;
    }

pub serve_next-requires-clause-lane : goal.serve_next-requires-clause-lane
serve_next-requires-clause-lane g c =
    let start = start_of g.C.Clock.given g.P.Planner.setting (first_of c.args.store.now) in
    with_limits g.Li.Link.Link.state start c.args.lane _ _ c.loop.pass c.loop.taker c.loop.sessions.items _ _
    (sym c.loop.invariant.limits) c.loop.invariant.lane

pub returns-in-Err-clause-lane : goal.returns-in-Err-clause-lane
returns-in-Err-clause-lane g c =
    let start = start_of g.C.Clock.given g.P.Planner.setting (first_of c.args.store.now) in
    with_limits g.Li.Link.Link.state start c.args.lane _ _ c.serve_next.new.pass c.serve_next.new.taker
    c.serve_next.new.sessions.items _ _ c.loop.invariant.limits c.serve_next.ensures.lane
