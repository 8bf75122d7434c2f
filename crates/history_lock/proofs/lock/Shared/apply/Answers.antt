use Rattle.std.proofs.Common.{◌≡◌, List, [], ◌∷◌, ◌++◌, refl, ap, sym, subst, ◌∙◌}
use Rattle.history_lock.specs.declared.board.Entered.{Entered}
use Rattle.history_lock.specs.History.{entered, entries, Leads, Runs, number_of}
use Rattle.history_lock.specs.Told.{waiting, arrived, publishing}
use Rattle.history_lock.specs.Passes.{first_of}
use Rattle.history_lock.proofs.Turning.{runs_on}
use Rattle.history_lock.proofs.Histories.{own_held}
use Rattle.history_lock.proofs.lock.Shared.apply.Goals as goal

pub take_turn-answer-requires-clause-serving : goal.take_turn-answer-requires-clause-serving
take_turn-answer-requires-clause-serving g c =
    let come = c.wait_turn.ensures.come in
    let drawn = c.draw-ticket.ensures.drawn in (
      come.1,
      come.2,
      ap (λ m. m.1) come.4,
      come.5,
      subst (λ h. Runs (Leads g.T.Turned.step) (first_of c.args.self.now) (entries h) come.2) (sym (ap (λ m. m.0.seen) come.4)) come.6,
      ap (λ m. m.0.come) come.4,
      ap (λ m. m.0.announced) come.4 ∙ (ap (λ m. m.0.announced) drawn.2 ∙ c.args.pass.now.rests.2),
    )

pub returns-clause-turn : goal.returns-clause-turn
returns-clause-turn g c =
    let v = c.args.pass.now.seat.me.0 in
    let drawn = c.draw-ticket.ensures.drawn in
    let come = c.wait_turn.ensures.come in
    let served = c.take_turn-answer.ensures.turn in
    let history : List (Entered g.row.T-Entry.Denot) = come.0 in
    let between : List (Entered g.row.T-Entry.Denot) = come.3.0 in
    let e : g.row.T-Entry.Denot = served.1 in
    let there : c.wait_turn.new.seat.me.0 ≡ arrived (waiting v drawn.0) history = ap (λ m. m.0) come.4 ∙ ap (λ m. arrived m.0 history) drawn.2 in
    let now : c.take_turn-answer.new.seat.me.0 ≡ publishing (arrived (waiting v drawn.0) history) e = ap (λ m. m.0) served.5 ∙ ap (λ x. publishing x e) there in
    let parts : v.seen ++ between ≡ history = ap (λ m. m.0.seen ++ between) (sym drawn.2) ∙ come.3.1 in
    let led : Runs (Leads g.T.Turned.step) (first_of c.args.self.now) (entries (v.seen ++ between)) served.0 =
    subst (λ h. Runs (Leads g.T.Turned.step) (first_of c.args.self.now) (entries h) served.0) (ap (λ x. x.seen) there ∙ sym parts) served.3 in
    let has_seen : c.take_turn-answer.new.seat.me.0.seen ≡ (v.seen ++ between) ++ entered (number_of v.shares) e ∷ [] = ap (λ x. x.seen) now ∙ ap (λ h. h ++ entered (number_of v.shares) e ∷ []) (sym parts) in
    record {
      between = between;
      old = served.0;
      entry = e;
      new = served.2;
      has_seen = has_seen;
      led = led;
      stepped = served.4;
      leads = subst (λ h. Runs (Leads g.T.Turned.step) (first_of c.args.self.now) (entries h) served.2) (sym has_seen)
          (runs_on g.T.Turned.step (first_of c.args.self.now) (v.seen ++ between) (v.seen ++ between) (number_of v.shares) served.0 c.args.call e c.take_turn-answer.result served.2 led served.4 refl);
      has_own = ap (λ x. x.shares) now;
    }

pub invariant_of-pass-clause-holds_own : goal.invariant_of-pass-clause-holds_own
invariant_of-pass-clause-holds_own g c = own_held c.take_turn-answer.new.seat.me.0.seen c.take_turn-answer.new.seat.me.0.shares c.take_turn-answer.ensures.turn.6
