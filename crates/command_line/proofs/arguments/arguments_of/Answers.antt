use Rattle.command_line.specs.declared.help.Topic.TheVariants as topics
use Rattle.command_line.proofs.arguments.arguments_of.Goals as goal

pub returns-in_ok-answer_arguments-in-answer-clause-ok : goal.returns-in_ok-answer_arguments-in-answer-clause-ok
returns-in_ok-answer_arguments-in-answer-clause-ok c =
    let ok = c.in_ok-answer_arguments-in-answer.ensures.ok in
    (ok, λ asks. c.topic_of.ensures.none c.in_default.is topics.Answer (ok.named, asks))

pub returns-in_ok-init_arguments-in-init-clause-ok : goal.returns-in_ok-init_arguments-in-init-clause-ok
returns-in_ok-init_arguments-in-init-clause-ok c =
    let ok = c.in_ok-init_arguments-in-init.ensures.ok in
    (ok, λ asks. c.topic_of.ensures.none c.in_default.is topics.Init (ok.named, asks))

pub returns-in_ok-file_arguments-in-check-clause-ok : goal.returns-in_ok-file_arguments-in-check-clause-ok
returns-in_ok-file_arguments-in-check-clause-ok c =
    let ok = c.in_ok-file_arguments-in-check.ensures.ok in
    (ok, λ asks. c.topic_of.ensures.none c.in_default.is topics.Check (ok.named, asks))

pub returns-in_ok-file_arguments-in-compact-clause-ok : goal.returns-in_ok-file_arguments-in-compact-clause-ok
returns-in_ok-file_arguments-in-compact-clause-ok c =
    let ok = c.in_ok-file_arguments-in-compact.ensures.ok in
    (ok, λ asks. c.topic_of.ensures.none c.in_default.is topics.Compact (ok.named, asks))

pub returns-in_ok-file_arguments-in-migrate-clause-ok : goal.returns-in_ok-file_arguments-in-migrate-clause-ok
returns-in_ok-file_arguments-in-migrate-clause-ok c =
    let ok = c.in_ok-file_arguments-in-migrate.ensures.ok in
    (ok, λ asks. c.topic_of.ensures.none c.in_default.is topics.Migrate (ok.named, asks))
