use Rattle.std.proofs.Common.{◌≡◌, List, [], ◌∷◌, ◌++◌, ap, sym, ◌∙◌, subst}
use Rattle.doip_message.specs.Pairs.{pair}
use Rattle.doip_segment.specs.Segments.{Segment}
use Rattle.session_core.specs.Texts.{reply_bytes}
use Rattle.repo_step.specs.History.{session_pairs}
use Rattle.repo_store.specs.Store.{Turns, entry_of, planner_in, seen_of, state_in, text_with}
use Rattle.repo_top.proofs.SessionLemmas.{pairs_at, pairs_with, ready_at, ready_more, same_seat, seat}
use Rattle.repo_top.proofs.alone.AloneResponder.respond.Goals as goal

pub returns-clause-ready : goal.returns-clause-ready
returns-clause-ready g c =
    let me = c.args.self.now in
    let now = c.record.new.self in
    let turned = c.turn-told.new.self in
    let told = c.turn-told.result in
    let setting = g.P.Planner.setting (planner_in me.store) in
    let given = g.C.Clock.given in
    let message = c.message.result.now.segments in
    let same : message ≡ c.args.decoder.segments = c.message.ensures.segments ∙ ap (λ d. d.segments) c.turn-told.ensures.decoder in
    let turns = subst (λ (l : List Segment). Turns setting (seen_of given me.store) (entry_of me.lane me.session l told.outcome told.moment.number told.brought)
    (text_with told.outcome told.buffer.items) (seen_of given turned)) (sym same) c.turn-told.ensures.turn in
    ready_at g.D.Disk (seat g.D.Disk setting (seen_of given me.first.value) me.lane me.session)
    (seat g.D.Disk (g.P.Planner.setting (planner_in now.store)) (seen_of given now.first.value) now.lane now.session)
    (me.past ++ entry_of me.lane me.session message told.outcome told.moment.number told.brought ∷ []) now.past (seen_of given turned) (seen_of given now.store)
    (same_seat g.D.Disk _ _ _ _ _ _ _ _ (ap g.P.Planner.setting (ap planner_in c.record.ensures.store ∙ c.turn-told.ensures.planner))
    (ap (λ s. seen_of given s.value) c.record.ensures.first) c.record.ensures.session.0 c.record.ensures.session.1)
    c.record.ensures.past (ap (seen_of given) c.record.ensures.store)
    (ready_more g.D.Disk setting (seen_of given me.first.value) (seen_of given me.store) (seen_of given turned) me.lane me.session me.past message told.outcome
    told.moment.number told.brought (text_with told.outcome told.buffer.items) c.requires.ready turns)

pub returns-clause-answered : goal.returns-clause-answered
returns-clause-answered g c =
    let me = c.args.self.now in
    let now = c.record.new.self in
    let turned = c.turn-told.new.self in
    let told = c.turn-told.result in
    let setting = g.P.Planner.setting (planner_in me.store) in
    let given = g.C.Clock.given in
    let first = seen_of given me.first.value in
    let message = c.message.result.now.segments in
    let text = reply_bytes told.buffer.items c.reply_of.result in
    let same : message ≡ c.args.decoder.segments = c.message.ensures.segments ∙ ap (λ d. d.segments) c.turn-told.ensures.decoder in
    let turns = subst (λ (l : List Segment). Turns setting (seen_of given me.store) (entry_of me.lane me.session l told.outcome told.moment.number told.brought)
    (text_with told.outcome told.buffer.items) (seen_of given turned)) (sym same) c.turn-told.ensures.turn in
    pairs_at g.D.Disk (seat g.D.Disk setting first me.lane me.session)
    (seat g.D.Disk (g.P.Planner.setting (planner_in now.store)) (seen_of given now.first.value) now.lane now.session)
    (me.past ++ entry_of me.lane me.session message told.outcome told.moment.number told.brought ∷ []) now.past
    (same_seat g.D.Disk _ _ _ _ _ _ _ _ (ap g.P.Planner.setting (ap planner_in c.record.ensures.store ∙ c.turn-told.ensures.planner))
    (ap (λ s. seen_of given s.value) c.record.ensures.first) c.record.ensures.session.0 c.record.ensures.session.1)
    c.record.ensures.past
    ∙ (pairs_with setting (state_in first) me.lane me.session me.past message told.outcome told.moment.number told.brought text
    (c.reply_of.ensures told.buffer.items
    ∙ c.runs_are_histories.ensures.reply setting first (seen_of given me.store) (seen_of given turned) me.past
    (entry_of me.lane me.session message told.outcome told.moment.number told.brought) (text_with told.outcome told.buffer.items) c.requires.ready.runs turns)
    ∙ ap (λ (m : List Segment). session_pairs setting (state_in first) me.lane me.session me.past ++ pair m text ∷ []) same)
