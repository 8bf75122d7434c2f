use Rattle.std.proofs.Common.{subst}
use Rattle.history_lock.specs.Passes.{first_of, seen}
use Rattle.doip_segment.specs.declared.outcome.Limits.{Limits}
use Rattle.session_core.specs.Session.{Served}
use Rattle.lane_server.specs.Growing.{pairs_by}
use Rattle.lane_server.specs.Turns.{start_of}
use Rattle.lane_server.proofs.session.serve_session.Goals as goal

pub returns-clause-session : goal.returns-clause-session
returns-clause-session g c =
    let pairs = pairs_by (start_of g.C.Clock.given g.P.Planner.setting (first_of c.args.store.now)) c.args.lane
    c.args.session in
    record {
      ended = g.L.Link.state c.serve_open-decoder.new.link;
      served = subst (λ (l : Limits). Served l (pairs (seen c.args.pass.now)) (pairs (seen c.serve_open-decoder.new.pass))
          (g.L.Link.state c.args.link.now) (g.L.Link.state c.serve_open-decoder.new.link) c.serve_open-decoder.result.2)
          c.restart-2.ensures.limits c.serve_open-decoder.ensures.session;
      closes = c.close.ensures;
    }
