use Rattle.std.proofs.Common.{◌≡◌, inl, Option, sym, ap, ◌∙◌}
use Rattle.journal_core.specs.declared.journal.Room.{Room}
use Rattle.repo_state.specs.Held.{Held}
use Rattle.repo_step.specs.Setting.{state}
use Rattle.repo_step.specs.Step.{step}
use Rattle.repo_store.specs.Saved.{room_in}
use Rattle.repo_store.proofs.Keeping.{still}
use Rattle.repo_store.proofs.store.try_turn.Goals as goal

pub returns-in_err-planned-clause-crash : goal.returns-in_err-planned-clause-crash
returns-in_err-planned-clause-crash g c = λ reports keeps. still g.D.Disk c.args.journal.now c.args.table.now.contents keeps reports _ (λ image stands. inl stands)

pub returns-in_err-append-clause-crash : goal.returns-in_err-append-clause-crash
returns-in_err-append-clause-crash g c = λ reports keeps. still g.D.Disk c.args.journal.now c.args.table.now.contents keeps reports _ (λ image stands. inl stands)

pub returns-in_default-clause-crash : goal.returns-in_default-clause-crash
returns-in_default-clause-crash g c = λ reports keeps. still g.D.Disk c.args.journal.now c.args.table.now.contents keeps reports _ (λ image stands. inl stands)

pub commit_change-requires : goal.commit_change-requires
commit_change-requires g c =
    let setting = g.P.Planner.setting c.args.planner.now in
    let room = room_in c.args.journal.now in
    let there : (step setting c.args.brought (state c.args.table.now.contents room) c.args.message.now.segments).change
    ≡ (step setting c.args.brought (state c.table.result.now.contents c.room_of-room.result) c.args.message.now.segments).change =
    ap (λ (r : Option Room). (step setting c.args.brought (state c.args.table.now.contents r) c.args.message.now.segments).change) (sym c.room_of-room.ensures.room)
    ∙ ap (λ (h : Held). (step setting c.args.brought (state h.contents c.room_of-room.result) c.args.message.now.segments).change) (sym c.table.ensures.same) in
    record {
      follows = c.steps_keep_consistency.ensures setting c.args.brought (state c.args.table.now.contents room) c.args.message.now.segments c.in-Some.change
          c.table.ensures.consistent (there ∙ (sym (ap (λ p. p.change) c.in_ok-planned.ensures.plan) ∙ (sym c.into_change.ensures ∙ c.in-Some.is)));
    }
