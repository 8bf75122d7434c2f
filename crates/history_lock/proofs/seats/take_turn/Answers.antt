use Rattle.std.proofs.Common.{◌≡◌, ◌+◌, ◌*◌, ◌<◌, [], ◌∷◌, ap, ◌∙◌, arith}
use Rattle.history_lock.specs.History.{Leads, own_of, other_shares}
use Rattle.history_lock.specs.Told.{announcing, publishing}
use Rattle.history_lock.proofs.Moves.{announces, publishes}
use Rattle.history_lock.proofs.Turning.{runs_on}
use Rattle.history_lock.proofs.seats.take_turn.Goals as goal

pub fetch_add-requires : goal.fetch_add-requires
fetch_add-requires g c =
    let first : g.row.T.Denot = c.args.lock.now.table.shared.key.first.value in let m = c.args.seat.now.me in let served = c.serve-answer.ensures.served in let in_hand = served.6 in
    let words : c.args.seat.now.table_id.words ≡ c.args.lock.now.table.shared.table_id.words = ap (λ z. z.words) c.requires.table in
    let inside : (c.args.number + 2) * 16 < c.args.seat.now.table_id.words = c.requires.inside in (
      c.serve-answer.ensures.table ∙ c.requires.table,
      omega arith,
      announces (Leads g.T.Turned.step) first c.args.lock.now.table.shared.key.passes _ _ c.serve-answer.new.seat.me c.args.number (own_of m.0.shares) (other_shares m.0.shares) served.1 served.2
          (ap (λ x. x.0.come) in_hand ∙ c.requires.serving.5) (ap (λ x. x.0.announced) in_hand ∙ c.requires.serving.6) (ap (λ x. x.0.shares) in_hand ∙ c.requires.number) (ap (λ x. x.1) in_hand) served.5,
    )

pub fetch_add-requires-2 : goal.fetch_add-requires-2
fetch_add-requires-2 g c =
    let first : g.row.T.Denot = c.args.lock.now.table.shared.key.first.value in let m = c.args.seat.now.me in let served = c.serve-answer.ensures.served in let in_hand = served.6 in
    let e : g.row.T-Entry.Denot = served.2.entry in
    let told : c.fetch_add.new.seat.me ≡ (announcing m.0 e, (0, served.1) ∷ []) = c.fetch_add.ensures.2 served.1 served.2 (ap (λ x. x.1) in_hand) served.5 ∙ (λ i. (announcing (in_hand i).0 e, (in_hand i).1)) in
    let words = c.args.lock.now.sized in (
      c.fetch_add.ensures.0 ∙ (c.serve-answer.ensures.table ∙ c.requires.table),
      omega arith,
      publishes (Leads g.T.Turned.step) first c.args.lock.now.table.shared.key.passes _ _ c.fetch_add.new.seat.me c.args.number (own_of m.0.shares) (other_shares m.0.shares) e served.1 served.1.value
          (ap (λ x. x.0.come) told ∙ c.requires.serving.5) (ap (λ x. x.0.announced) told) (ap (λ x. x.0.shares) told ∙ c.requires.number) (ap (λ x. x.1) told) Rattle.std.proofs.Common.refl
          (runs_on g.T.Turned.step first m.0.seen c.fetch_add.new.seat.me.0.seen c.args.number served.0 c.args.call e c.serve-answer.result served.1.value served.3 served.4 (ap (λ x. x.0.seen) told)),
    )

pub returns-clause-turn : goal.returns-clause-turn
returns-clause-turn g c =
    let m = c.args.seat.now.me in let served = c.serve-answer.ensures.served in let in_hand = served.6 in let e : g.row.T-Entry.Denot = served.2.entry in
    let told : c.fetch_add.new.seat.me ≡ (announcing m.0 e, (0, served.1) ∷ []) = c.fetch_add.ensures.2 served.1 served.2 (ap (λ x. x.1) in_hand) served.5 ∙ (λ i. (announcing (in_hand i).0 e, (in_hand i).1)) in
    let joined = c.fetch_add-2.ensures.2 e (ap (λ x. x.0.announced) told) in
    (served.0, e, served.1.value, served.3, served.4, joined.0 ∙ ap (λ x. (publishing x.0 e, [])) told, joined.1)
