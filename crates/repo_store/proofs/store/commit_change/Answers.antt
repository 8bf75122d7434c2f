use Rattle.std.proofs.Common.{◌≡◌, inl, ℕ, ◌+◌, ap, ◌∙◌}
use Rattle.journal_core.specs.declared.records.Stamp.{Stamp}
use Rattle.record_core.specs.Body.{body}
use Rattle.repo_state.specs.Contents.{apply}
use Rattle.repo_step.specs.Setting.{state}
use Rattle.repo_step.specs.Step.{next_stamp}
use Rattle.repo_store.specs.Saved.{room_in}
use Rattle.repo_store.proofs.Committing.{commits_crash, commits_keep}
use Rattle.repo_store.proofs.Keeping.{still}
use Rattle.repo_store.proofs.store.commit_change.Goals as goal

pub returns-in_err-body-clause-crash : goal.returns-in_err-body-clause-crash
returns-in_err-body-clause-crash g c = λ reports keeps. still g.D.Disk c.args.journal.now c.args.table.now.contents keeps reports _ (λ image stands. inl stands)

pub returns-in_err-reserve-clause-crash : goal.returns-in_err-reserve-clause-crash
returns-in_err-reserve-clause-crash g c = λ reports keeps. still g.D.Disk c.args.journal.now c.args.table.now.contents keeps reports _ (λ image stands. inl stands)

pub returns-in-Ok-clause-crash : goal.returns-in-Ok-clause-crash
returns-in-Ok-clause-crash g c =
    let before = c.args.table.now.contents in
    let room = room_in c.args.journal.now in
    let is : c.get.result.now ≡ body c.args.change = c.get.ensures ∙ c.in_ok-body.ensures.body in
    commits_crash c.records_decide_changes.ensures.more c.records_decide_changes.ensures.after c.args.brought before room c.args.change _ c.get.result.now c.requires.follows c.body_of.ensures.change_is is
    (ap (λ (n : ℕ). let s : Stamp = record { number = n + 1; time = c.args.brought.time } in s) c.number.ensures) g.D.Disk c.args.journal.now c.save.new.journal c.save.ensures.crash

pub returns-in-Ok-clause-keeps : goal.returns-in-Ok-clause-keeps
returns-in-Ok-clause-keeps g c =
    let before = c.args.table.now.contents in
    let room = room_in c.args.journal.now in
    let is : c.get.result.now ≡ body c.args.change = c.get.ensures ∙ c.in_ok-body.ensures.body in
    let stamp_is = ap (λ (n : ℕ). let s : Stamp = record { number = n + 1; time = c.args.brought.time } in s) c.number.ensures in
    let made : c.install.new.self.contents ≡ apply (record { stamp = next_stamp c.args.brought (state before room); change = c.args.change }) before = cc (c.install.ensures, stamp_is, c.in_ok-reserve.ensures.contents) in
    commits_keep c.records_decide_changes.ensures.more c.records_decide_changes.ensures.after c.args.brought before room c.args.change _ c.get.result.now c.requires.follows c.body_of.ensures.change_is is
    stamp_is g.D.Disk c.args.journal.now c.save.new.journal c.install.new.self.contents made c.in-Ok.ensures.keeps

pub returns-in-Err-clause-crash : goal.returns-in-Err-clause-crash
returns-in-Err-clause-crash g c =
    let before = c.args.table.now.contents in
    let room = room_in c.args.journal.now in
    let is : c.get.result.now ≡ body c.args.change = c.get.ensures ∙ c.in_ok-body.ensures.body in
    commits_crash c.records_decide_changes.ensures.more c.records_decide_changes.ensures.after c.args.brought before room c.args.change _ c.get.result.now c.requires.follows c.body_of.ensures.change_is is
    (ap (λ (n : ℕ). let s : Stamp = record { number = n + 1; time = c.args.brought.time } in s) c.number.ensures) g.D.Disk c.args.journal.now c.save.new.journal c.save.ensures.crash
