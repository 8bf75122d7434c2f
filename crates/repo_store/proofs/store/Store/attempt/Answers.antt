use Rattle.std.proofs.Common.{ℕ, List, ◌++◌, ap, ◌∙◌}
use Rattle.doip_message.specs.Reply.{reply_text}
use Rattle.repo_step.specs.Setting.{State, state}
use Rattle.repo_step.specs.Step.{step}
use Rattle.repo_store.specs.Saved.{room_in}
use Rattle.repo_store.proofs.Keeping.{none_of}
use Rattle.repo_store.proofs.Turning.{done_turn, memory_turn}
use Rattle.repo_store.proofs.store.Store.attempt.Goals as goal

pub returns-in_default-clause-turn : goal.returns-in_default-clause-turn
returns-in_default-clause-turn g c = λ lane session given time.
    let before = c.args.self.now in
    let setting = g.P.Planner.setting before.planner in
    let made = c.try_turn-made.new in
    let says = c.in_default.ensures in
    let first : State = state before.table.contents (room_in before.journal) in
    done_turn g.D.Disk setting lane session c.args.message.now.segments c.args.brought before.journal before.table.contents given (g.C.Clock.given before.clock) time
    before.closed (none_of before.closed c.is_some.result c.is_some.ensures c.if-is_some.false) made.journal made.table.contents says.clock says.count says.reported says.unchanged says.crash made.out.items
    (says.reply ∙ ap (λ (l : List ℕ). l ++ reply_text (step setting c.args.brought first c.args.message.now.segments).reply) c.requires.empty) says.change says.saved says.keeps

pub returns-in-Memory-clause-turn : goal.returns-in-Memory-clause-turn
returns-in-Memory-clause-turn g c = λ lane session given time.
    let before = c.args.self.now in
    let made = c.try_turn-made.new in
    memory_turn g.D.Disk (g.P.Planner.setting before.planner) lane session c.args.message.now.segments c.args.brought before.journal before.table.contents given (g.C.Clock.given before.clock) time
    before.closed made.journal made.table.contents made.out.items (none_of before.closed c.is_some.result c.is_some.ensures c.if-is_some.false) (c.in-Err.ensures.memory c.in-Memory.is) (ap (λ (s : State). s.contents) c.in-Err.ensures.stays)
