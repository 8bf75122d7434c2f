use Rattle.std.proofs.Common.{◌∷◌, ◌++◌, [], Ok, length, refl, ap, ◌∙◌, arith}
use Rattle.history_lock.specs.Passes.{first_of}
use Rattle.lane_server.specs.Lanes.{terms}
use Rattle.lane_server.specs.Turns.{start_of}
use Rattle.lane_server.proofs.StateLemmas.{state_ends, state_faults, state_on}
use Rattle.lane_server.proofs.lane.serve_next.Goals as goal

pub returns-in-Ok-None-clause-lane : goal.returns-in-Ok-None-clause-lane
returns-in-Ok-None-clause-lane g c =
    let t = terms c.args.buffers.decoder.limits (start_of g.C.Clock.given g.P.Planner.setting (first_of c.args.store.now)) in
    let turn = c.in-Ok-None.ensures.turn in
    (state_ends g.Li.Link.Link.state t c.args.lane _ _ c.args.pass.now c.args.taker.now c.apply.new.pass
    c.args.sessions.now.items _ turn.entry c.requires.lane c.requires.faultless c.in-Ok-None.ensures.lock turn.has_own
    (turn.stepped.told ∙ ap (λ o. Ok o) c.in-Ok-None.field-0-is) c.in_default.ensures.items).0

pub returns-in-Ok-None-clause-end : goal.returns-in-Ok-None-clause-end
returns-in-Ok-None-clause-end g c =
    let t = terms c.args.buffers.decoder.limits (start_of g.C.Clock.given g.P.Planner.setting (first_of c.args.store.now)) in
    let turn = c.in-Ok-None.ensures.turn in
    let e = state_ends g.Li.Link.Link.state t c.args.lane _ _ c.args.pass.now c.args.taker.now c.apply.new.pass
    c.args.sessions.now.items _ turn.entry c.requires.lane c.requires.faultless c.in-Ok-None.ensures.lock turn.has_own
    (turn.stepped.told ∙ ap (λ o. Ok o) c.in-Ok-None.field-0-is) refl in
    (e.1, e.2)

pub returns-in-Err-apply-clause-lane : goal.returns-in-Err-apply-clause-lane
returns-in-Err-apply-clause-lane g c =
    let t = terms c.args.buffers.decoder.limits (start_of g.C.Clock.given g.P.Planner.setting (first_of c.args.store.now)) in
    let turn = c.in-Err-apply.ensures.turn in
    (state_faults g.Li.Link.Link.state t c.args.lane _ _ c.args.pass.now c.args.taker.now c.apply.new.pass
    c.args.sessions.now.items _ turn.entry _ c.requires.lane c.requires.faultless c.in-Err-apply.ensures.lock
    turn.has_own turn.stepped.told c.in_default.ensures.items).0

pub returns-in-Err-apply-clause-end : goal.returns-in-Err-apply-clause-end
returns-in-Err-apply-clause-end g c =
    let t = terms c.args.buffers.decoder.limits (start_of g.C.Clock.given g.P.Planner.setting (first_of c.args.store.now)) in
    let turn = c.in-Err-apply.ensures.turn in
    (state_faults g.Li.Link.Link.state t c.args.lane _ _ c.args.pass.now c.args.taker.now c.apply.new.pass
    c.args.sessions.now.items _ turn.entry _ c.requires.lane c.requires.faultless c.in-Err-apply.ensures.lock
    turn.has_own turn.stepped.told refl).1

pub returns-clause-lane : goal.returns-clause-lane
returns-clause-lane g c =
    let t = terms c.args.buffers.decoder.limits (start_of g.C.Clock.given g.P.Planner.setting (first_of c.args.store.now)) in
    let turn = c.in-Ok-Some.ensures.turn in
    let one = c.serve_link-buffers.result.1 in
    (state_on g.Li.Link.Link.state t c.args.lane _ _ c.args.pass.now c.serve_link-buffers.new.pass c.args.taker.now
    c.apply.new.pass c.args.sessions.now.items c.add.new.sessions.items one c.len-session.result turn.entry c.in-Ok-Some.link
    c.requires.lane c.requires.faultless c.in-Ok-Some.ensures.lock turn.has_own
    (turn.stepped.told ∙ ap (λ o. Ok o) c.in-Ok-Some.field-0-is) c.serve_link-buffers.ensures.begun
    (c.add.ensures ∙ ap (λ xs. xs ++ one ∷ []) c.in_default.ensures.items)
    (omega (arith, c.len-session.ensures, c.reserve.new.self.ok.0, ap length c.in_default.ensures.items)) c.serve_link-buffers.ensures.grew
    c.serve_link-buffers.ensures.named.0 c.serve_link-buffers.ensures.named.1 c.serve_link-buffers.ensures.session).0

pub returns-clause-faultless : goal.returns-clause-faultless
returns-clause-faultless g c =
    let t = terms c.args.buffers.decoder.limits (start_of g.C.Clock.given g.P.Planner.setting (first_of c.args.store.now)) in
    let turn = c.in-Ok-Some.ensures.turn in
    let one = c.serve_link-buffers.result.1 in
    (state_on g.Li.Link.Link.state t c.args.lane _ _ c.args.pass.now c.serve_link-buffers.new.pass c.args.taker.now
    c.apply.new.pass c.args.sessions.now.items c.add.new.sessions.items one c.len-session.result turn.entry c.in-Ok-Some.link
    c.requires.lane c.requires.faultless c.in-Ok-Some.ensures.lock turn.has_own
    (turn.stepped.told ∙ ap (λ o. Ok o) c.in-Ok-Some.field-0-is) c.serve_link-buffers.ensures.begun
    (c.add.ensures ∙ ap (λ xs. xs ++ one ∷ []) c.in_default.ensures.items)
    (omega (arith, c.len-session.ensures, c.reserve.new.self.ok.0, ap length c.in_default.ensures.items)) c.serve_link-buffers.ensures.grew
    c.serve_link-buffers.ensures.named.0 c.serve_link-buffers.ensures.named.1 c.serve_link-buffers.ensures.session).1
