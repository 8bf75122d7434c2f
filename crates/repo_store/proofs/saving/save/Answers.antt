use Rattle.journal_core.specs.Journal.{one}
use Rattle.repo_store.proofs.Commits.{some_crash, some_keeps, some_room}
use Rattle.repo_store.proofs.saving.save.Goals as goal

pub returns-in-Ok-clause-room : goal.returns-in-Ok-clause-room
returns-in-Ok-clause-room g c = some_room g.D.Disk c.args.journal.now _ c.commit.new.self c.args.stamp c.args.body.now c.in-Some.is c.in-Ok.ensures.added.used c.commit.ensures.place.area

pub returns-in-Ok-clause-crash : goal.returns-in-Ok-clause-crash
returns-in-Ok-clause-crash g c = some_crash g.D.Disk c.args.journal.now _ c.commit.new.self (one c.args.stamp c.args.body.now) c.in-Some.is c.commit.ensures.crash

pub returns-in-Ok-clause-keeps : goal.returns-in-Ok-clause-keeps
returns-in-Ok-clause-keeps g c = some_keeps g.D.Disk c.args.journal.now _ c.commit.new.self (one c.args.stamp c.args.body.now) c.in-Some.is c.in-Ok.ensures.added.keeps

pub returns-in-Err-clause-crash : goal.returns-in-Err-clause-crash
returns-in-Err-clause-crash g c = some_crash g.D.Disk c.args.journal.now _ c.commit.new.self (one c.args.stamp c.args.body.now) c.in-Some.is c.commit.ensures.crash
