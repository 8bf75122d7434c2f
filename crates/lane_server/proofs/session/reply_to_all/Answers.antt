use Rattle.std.proofs.Common.{List, refl, ap, sym, ◌∙◌, subst}
use Rattle.doip_message.specs.Pairs.{Pair}
use Rattle.history_lock.specs.Passes.{first_of, lock_of, seen, shares}
use Rattle.session_core.specs.Session.{Served}
use Rattle.lane_server.specs.Growing.{pairs_by}
use Rattle.lane_server.specs.Turns.{start_of}
use Rattle.lane_server.proofs.GrowingLemmas.{grew_from, grew_none}
use Rattle.lane_server.proofs.session.reply_to_all.Goals as goal

pub serve-requires-clause-ready : goal.serve-requires-clause-ready
serve-requires-clause-ready g c =
    let me = c.args.responder.now in
    let begun = c.requires.begun in (
      c.requires.lock,
      c.requires.lane,
      grew_from me.lane me.lane me.session me.session me.pass.now me.begun.now.value me.pass.now refl refl
          (ap lock_of (sym begun)) (ap seen (sym begun)) (ap shares (sym begun)) (grew_none me.lane me.session me.pass.now),
    )

pub returns-clause-same_reference : goal.returns-clause-same_reference
returns-clause-same_reference g c = ap (λ s. s.pass) c.serve.ensures.fixed

pub returns-clause-grew : goal.returns-clause-grew
returns-clause-grew g c =
    let now = c.serve.new.responder in
    let me = c.args.responder.now in
    let same = c.serve.ensures.fixed in
    let begun = c.requires.begun in
    grew_from now.lane me.lane now.session me.session now.begun.now.value me.pass.now now.pass.now (ap (λ s. s.lane) same)
    (ap (λ s. s.session) same) (ap (λ s. s.lock_first) same ∙ ap lock_of begun)
    (ap (λ s. s.seen_first) same ∙ ap seen begun) (ap (λ s. s.shares_first) same ∙ ap shares begun)
    c.serve.ensures.ready.2

pub returns-clause-session : goal.returns-clause-session
returns-clause-session g c =
    let now = c.serve.new.responder in
    let me = c.args.responder.now in
    let same = c.serve.ensures.fixed in
    let start = start_of g.C.Clock.given g.P.Planner.setting in
    subst (λ (ps : List Pair). Served c.args.decoder.limits
    (pairs_by (start (first_of me.store.now)) me.lane me.session (seen me.pass.now)) ps
    (g.L.Link.state c.args.link.now) (g.L.Link.state c.serve.new.link) c.serve.result.2)
    (λ i. pairs_by (start (ap (λ s. s.first) same i)) (ap (λ s. s.lane) same i) (ap (λ s. s.session) same i)
    (seen now.pass.now)) c.serve.ensures.session
