use Rattle.std.proofs.Common.{◌≡◌, ℕ, [], ◌∷◌, ◌++◌, ap, sym, ◌∙◌}
use Rattle.doip_message.specs.Pairs.{pair}
use Rattle.history_lock.specs.History.{entries, entries_by, number_of}
use Rattle.history_lock.specs.Passes.{first_of, number, seen, shares}
use Rattle.session_core.specs.Texts.{reply_bytes}
use Rattle.repo_step.specs.History.{Entry}
use Rattle.lane_server.specs.Growing.{pairs_by}
use Rattle.lane_server.specs.Turns.{start_of}
use Rattle.lane_server.proofs.GrowingLemmas.{grew_more, grown_number, none_mine}
use Rattle.lane_server.proofs.PairLemmas.{pairs_turn}
use Rattle.lane_server.proofs.TurnLemmas.{text_of_turn}
use Rattle.lane_server.proofs.responder.LaneResponderStoreResponder.respond.Goals as goal

pub returns-clause-ready : goal.returns-clause-ready
returns-clause-ready g c =
    let me = c.args.self.now in
    let before = me.pass.now in
    let after = c.apply-told.new.pass in
    let turn = c.apply-told.ensures.turn in
    let none : entries_by (number before) turn.between ≡ [] =
    none_mine (seen before) turn.between before.number (shares before) (shares after) turn.entry (seen after)
    (c.own_turns_are_next_to_each_other.ensures (seen before) turn.between (shares before) turn.entry)
    before.first_is_own before.holds_own after.holds_own turn.has_seen turn.has_own in (
      c.apply-told.ensures.lock ∙ c.requires.ready.0,
      ap number_of turn.has_own ∙ (grown_number turn.entry (shares before) ∙ c.requires.ready.1),
      grew_more me.lane me.session _ _ me.begun.now.value before after _ _ c.requires.ready.2 turn
          c.apply-told.ensures.lock (ap (λ (e : Entry). e.lane) turn.stepped.entry)
          (ap (λ (e : Entry). e.session) turn.stepped.entry) none,
    )

pub returns-clause-answered : goal.returns-clause-answered
returns-clause-answered g c =
    let me = c.args.self.now in
    let before = me.pass.now in
    let after = c.apply-told.new.pass in
    let told = c.apply-told.result in
    let turn = c.apply-told.ensures.turn in
    let start = start_of g.C.Clock.given g.P.Planner.setting (first_of me.store.now) in
    let n : ℕ = number before in
    let none : entries_by n turn.between ≡ [] =
    none_mine (seen before) turn.between before.number (shares before) (shares after) turn.entry (seen after)
    (c.own_turns_are_next_to_each_other.ensures (seen before) turn.between (shares before) turn.entry)
    before.first_is_own before.holds_own after.holds_own turn.has_seen turn.has_own in
    let mine : n ≡ me.lane = c.requires.ready.1 in
    let text = c.reply_of.ensures told.buffer.items
    ∙ text_of_turn g.D.Disk g.C.Clock.given g.P.Planner.setting c.runs_are_histories.ensures
    c.turns_of_a_lock_are_turns.ensures (first_of me.store.now) turn.old turn.new
    (entries (seen before ++ turn.between)) _ turn.entry told turn.led turn.stepped in
    ap (λ (k : ℕ). pairs_by start k me.session (seen after)) (sym mine)
    ∙ (ap (pairs_by start n me.session) turn.has_seen
    ∙ (pairs_turn start n me.session (seen before) turn.between turn.entry _ none
    (ap (λ (e : Entry). e.session) turn.stepped.entry) text
    ∙ (λ i. pairs_by start (mine i) me.session (seen before)
    ++ pair (ap (λ (e : Entry). e.message) turn.stepped.entry i) (reply_bytes told.buffer.items c.reply_of.result) ∷ [])))
