use Rattle.std.proofs.Common.{◌≡◌, ℕ, List, [], Option, map, ap, sym, ◌∙◌, subst}
use Rattle.doip_message.specs.Pairs.{Pair}
use Rattle.session_core.specs.Session.{Served}
use Rattle.repo_step.specs.History.{session_pairs}
use Rattle.repo_store.specs.Law.{GivesTimes}
use Rattle.repo_store.specs.Store.{clock_in, planner_in, seen_of, state_in}
use Rattle.repo_top.proofs.SessionLemmas.{causes, pairs_at, ready_at, same_seat, seat}
use Rattle.repo_top.proofs.answer.serve_link.Goals as goal

pub returns-clause-left : goal.returns-clause-left
returns-clause-left g c =
    let alone = c.new-alone.result in
    let now = c.serve-end.new.responder in
    let given = g.C.Clock.given in
    let store = c.args.store in
    let last = c.into_parts-store.result.0 in
    let first = seat g.D.Disk (g.P.Planner.setting (planner_in now.store)) (seen_of given now.first.value) now.lane now.session in
    let whole = seat g.D.Disk (g.P.Planner.setting (planner_in store)) (seen_of given store) 0 0 in
    let here : first ≡ whole =
    c.serve-end.ensures.fixed
    ∙ same_seat g.D.Disk _ _ _ _ _ _ _ _ (ap (λ s. g.P.Planner.setting (planner_in s)) c.new-alone.ensures.store)
    (ap (seen_of given) c.new-alone.ensures.first) c.new-alone.ensures.session.0 c.new-alone.ensures.session.1 in
    let ready = ready_at g.D.Disk first whole now.past c.into_parts-store.result.1 (seen_of given now.store) (seen_of given last) (sym here)
    c.into_parts-store.ensures.past (ap (seen_of given) c.into_parts-store.ensures.store) c.serve-end.ensures.ready in
    record {
      last = seen_of given last;
      runs = ready.runs;
      disk_is = c.into_parts-disk.ensures.disk;
      closed_is = c.closed-closed.ensures;
    }

pub returns-clause-past : goal.returns-clause-past
returns-clause-past g c =
    let now = c.serve-end.new.responder in
    let given = g.C.Clock.given in
    let store = c.args.store in
    let setting = g.P.Planner.setting (planner_in store) in
    let last = c.into_parts-store.result.0 in
    let first = seat g.D.Disk (g.P.Planner.setting (planner_in now.store)) (seen_of given now.first.value) now.lane now.session in
    let whole = seat g.D.Disk setting (seen_of given store) 0 0 in
    let here : first ≡ whole =
    c.serve-end.ensures.fixed
    ∙ same_seat g.D.Disk _ _ _ _ _ _ _ _ (ap (λ s. g.P.Planner.setting (planner_in s)) c.new-alone.ensures.store)
    (ap (seen_of given) c.new-alone.ensures.first) c.new-alone.ensures.session.0 c.new-alone.ensures.session.1 in
    let ready = ready_at g.D.Disk first whole now.past c.into_parts-store.result.1 (seen_of given now.store) (seen_of given last) (sym here)
    c.into_parts-store.ensures.past (ap (seen_of given) c.into_parts-store.ensures.store) c.serve-end.ensures.ready in
    record {
      legal = (c.runs_are_histories.ensures.from_open setting (seen_of given store) (seen_of given last) c.into_parts-store.result.1 c.requires.not_closed ready.runs).legal;
      no_other = ready.no_other;
      causes = causes c.no_reply_is_a_fixed_text.ensures setting 0 0 (state_in (seen_of given store)) c.into_parts-store.result.1;
    }

pub returns-clause-times : goal.returns-clause-times
returns-clause-times g c =
    let now = c.serve-end.new.responder in
    let given = g.C.Clock.given in
    let store = c.args.store in
    let setting = g.P.Planner.setting (planner_in store) in
    let last = c.into_parts-store.result.0 in
    let past = c.into_parts-store.result.1 in
    let first = seat g.D.Disk (g.P.Planner.setting (planner_in now.store)) (seen_of given now.first.value) now.lane now.session in
    let whole = seat g.D.Disk setting (seen_of given store) 0 0 in
    let here : first ≡ whole =
    c.serve-end.ensures.fixed
    ∙ same_seat g.D.Disk _ _ _ _ _ _ _ _ (ap (λ s. g.P.Planner.setting (planner_in s)) c.new-alone.ensures.store)
    (ap (seen_of given) c.new-alone.ensures.first) c.new-alone.ensures.session.0 c.new-alone.ensures.session.1 in
    let ready = ready_at g.D.Disk first whole now.past past (seen_of given now.store) (seen_of given last) (sym here)
    c.into_parts-store.ensures.past (ap (seen_of given) c.into_parts-store.ensures.store) c.serve-end.ensures.ready in
    subst (λ (o : Option (List ℕ)). GivesTimes (given (clock_in store)) o (map (λ e. e.brought.time) past)) (ap given (sym c.into_parts-disk.ensures.clock))
    (c.runs_are_histories.ensures.leaves setting (seen_of given store) (seen_of given last) past ready.runs).times

pub returns-clause-served : goal.returns-clause-served
returns-clause-served g c =
    let alone = c.new-alone.result in
    let now = c.serve-end.new.responder in
    let given = g.C.Clock.given in
    let store = c.args.store in
    let limits = c.args.decoder.limits in
    let end = c.serve-end.result.2 in
    let past = c.into_parts-store.result.1 in
    let zero = seat g.D.Disk (g.P.Planner.setting (planner_in alone.store)) (seen_of given alone.first.value) alone.lane alone.session in
    let first = seat g.D.Disk (g.P.Planner.setting (planner_in now.store)) (seen_of given now.first.value) now.lane now.session in
    let whole = seat g.D.Disk (g.P.Planner.setting (planner_in store)) (seen_of given store) 0 0 in
    let here : first ≡ whole =
    c.serve-end.ensures.fixed
    ∙ same_seat g.D.Disk _ _ _ _ _ _ _ _ (ap (λ s. g.P.Planner.setting (planner_in s)) c.new-alone.ensures.store)
    (ap (seen_of given) c.new-alone.ensures.first) c.new-alone.ensures.session.0 c.new-alone.ensures.session.1 in
    let pairs : List Pair = session_pairs whole.setting (state_in whole.first) 0 0 past in
    let none : session_pairs zero.setting (state_in zero.first) zero.lane zero.session alone.past ≡ [] =
    ap (session_pairs zero.setting (state_in zero.first) zero.lane zero.session) c.new-alone.ensures.past in
    let all : session_pairs first.setting (state_in first.first) first.lane first.session now.past ≡ pairs =
    sym (pairs_at g.D.Disk first whole now.past past (sym here) c.into_parts-store.ensures.past) in
    let begun : Served limits [] (session_pairs first.setting (state_in first.first) first.lane first.session now.past)
    (g.L.Link.state c.args.link) (g.L.Link.state c.serve-end.new.link) end =
    subst (λ (ps : List Pair). Served limits ps (session_pairs first.setting (state_in first.first) first.lane first.session now.past)
    (g.L.Link.state c.args.link) (g.L.Link.state c.serve-end.new.link) end) none c.serve-end.ensures.session in
    let served : Served limits [] pairs (g.L.Link.state c.args.link) (g.L.Link.state c.serve-end.new.link) end =
    subst (λ (ps : List Pair). Served limits [] ps (g.L.Link.state c.args.link) (g.L.Link.state c.serve-end.new.link) end) all begun in
    record {
      served = served;
      session = λ input is. c.a_session_that_reports.ensures limits [] pairs (g.L.Link.state c.args.link)
          (g.L.Link.state c.serve-end.new.link) end input is served;
    }
