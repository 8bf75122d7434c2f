use Rattle.std.proofs.Common.{◌≡◌, ap, sym, subst, ◌∙◌}
use mathlib.Core.Option.{some-injective}
use Rattle.history_lock.specs.History.{entries, held, AreOwn, AreBelow, Leads, Runs}
use Rattle.history_lock.proofs.Ends.{closes}
use Rattle.history_lock.proofs.Lists.{below_one}
use Rattle.history_lock.proofs.lock.Shared.close.Goals as goal

pub returns-clause-value : goal.returns-clause-value
returns-clause-value g c =
    let end = closes (Leads g.T.Turned.step) c.args.self.table.shared.key.first.value c.args.self.table.shared.key.passes _ c.args.pass.seat.me.0 _ _ c.args.pass.rests c.requires.all c.close_with-closed.ensures.values.2 in
    let same = some-injective end.0 c.take.result (sym end.2 ∙ c.take.ensures.value) in
    let alike : end.1 ≡ c.into_value-value.result = sym end.3 ∙ (ap (λ s. s.value) same ∙ sym c.into_value-value.ensures) in
    subst (λ m. Runs (Leads g.T.Turned.step) c.args.self.table.shared.key.first.value (entries m.me.0.seen) c.into_value-value.result) (sym c.of-last.ensures)
    (subst (λ x. Runs (Leads g.T.Turned.step) c.args.self.table.shared.key.first.value (entries c.args.pass.seat.me.0.seen) x) alike end.4)

pub returns-clause-own : goal.returns-clause-own
returns-clause-own g c =
    let end = closes (Leads g.T.Turned.step) c.args.self.table.shared.key.first.value c.args.self.table.shared.key.passes _ c.args.pass.seat.me.0 _ _ c.args.pass.rests c.requires.all c.close_with-closed.ensures.values.2 in
    subst (λ m. AreOwn m.me.0.seen m.me.0.shares) (sym c.of-last.ensures) end.5

pub returns-clause-numbers : goal.returns-clause-numbers
returns-clause-numbers g c =
    let end = closes (Leads g.T.Turned.step) c.args.self.table.shared.key.first.value c.args.self.table.shared.key.passes _ c.args.pass.seat.me.0 _ _ c.args.pass.rests c.requires.all c.close_with-closed.ensures.values.2 in
    subst (λ m. AreBelow c.args.self.table.shared.key.passes m.me.0.seen) (sym c.of-last.ensures) end.6

pub returns-clause-once : goal.returns-clause-once
returns-clause-once g c =
    let end = closes (Leads g.T.Turned.step) c.args.self.table.shared.key.first.value c.args.self.table.shared.key.passes _ c.args.pass.seat.me.0 _ _ c.args.pass.rests c.requires.all c.close_with-closed.ensures.values.2 in
    λ k l. subst (λ m. held k m.me.0.shares ≡ 1) (sym c.of-last.ensures) (end.7 k ∙ below_one k c.args.self.table.shared.key.passes l)
