use Rattle.std.proofs.Common.{ℕ, List, sym, subst}
use Rattle.doip_segment.specs.Segments.{Segment}
use Rattle.link_core.specs.Listener.{GivesTime}
use Rattle.repo_store.specs.Store.{Turns, entry_of, seen, text_with}
use Rattle.repo_store.proofs.store.Store.turn.Goals as goal

pub returns-clause-turn : goal.returns-clause-turn
returns-clause-turn g c =
    let before = c.args.self.now in
    let after = c.attempt-outcome.new.self in
    let work = c.args.work in
    let setting = g.P.Planner.setting before.planner in
    let outcome = c.attempt-outcome.result in
    let first = seen before.journal before.table.contents before.closed (g.C.Clock.given before.clock) in
    let last = seen after.journal after.table.contents after.closed (g.C.Clock.given after.clock) in
    let text = text_with outcome c.attempt-outcome.new.out.items in
    let time : GivesTime (g.C.Clock.given before.clock) (g.C.Clock.given after.clock) c.now.result = rw c.attempt-outcome.ensures.clock c.now.ensures in
    let turned = c.attempt-outcome.ensures.turn work.lane work.session (g.C.Clock.given before.clock) time in
    subst (λ (l : List Segment). Turns setting first (entry_of work.lane work.session l outcome c.moment_of.result.number (record { time = c.now.result })) text last) c.message.ensures.segments
    (subst (λ (n : ℕ). Turns setting first (entry_of work.lane work.session c.message.result.now.segments outcome n (record { time = c.now.result })) text last) (sym c.moment_of.ensures) turned)
