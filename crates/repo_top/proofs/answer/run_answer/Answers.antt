use Rattle.std.proofs.Common.{ap, ◌∙◌, option_map}
use Rattle.ext_ops.specs.Offered.{offered}
use Rattle.command_line.specs.Command.{answer_in}
use Rattle.repo_store.specs.Saved.{disk_in}
use Rattle.repo_store.specs.Store.{seen_of}
use Rattle.repo_top.specs.Run.{exit, views}
use Rattle.repo_top.proofs.AnswerLemmas.{no_console, opened_alone, ran_session}
use Rattle.repo_top.proofs.answer.run_answer.Goals as goal

pub returns-in-Err-console-clause-run : goal.returns-in-Err-console-clause-run
returns-in-Err-console-clause-run g c =
    let ran = c.without_session-in-Err-console.result in
    let says = c.without_session-in-Err-console.ensures in
    let state = g.H.Host.state in
    let started = c.in-Ok.ensures.started in
    let first = seen_of g.H.Clock.Clock.given c.in-Ok.started.store in
    no_console (views g.H.Disk.Disk g.H.Link.Link.state) (answer_in c.args.arguments.now) (offered c.args.extensions.operations c.args.extensions.hooks)
    (state c.args.host.now) (state c.start.new.host) (state c.console.new.self) (exit ran.status ran.note)
    (option_map (λ s. s.value) ran.opened) ran.disk (option_map (λ s. s.value) c.in-Ok.started.opened) (disk_in first.journal)
    (option_map (λ s. s.value) ran.begun) ran.link ran.end ran.past c.reason_of_host.result c.in-Err-console.fault c.reason_of_host.ensures says.exit
    (ap (λ o. option_map (λ s. s.value) o) says.opened) (says.disk ∙ c.into_parts-disk.ensures.disk) (ap (λ o. option_map (λ s. s.value) o) says.begun) says.link says.end says.past
    started.starts c.in-Err-console.ensures (opened_alone g.H.Disk.Disk _ first.journal first.contents started.opens)

pub returns-clause-run : goal.returns-clause-run
returns-clause-run g c =
    let state = g.H.Host.state in
    let started = c.in-Ok.ensures.started in
    let session = c.serve_link-session.result in
    let first = seen_of g.H.Clock.Clock.given c.in-Ok.started.store in
    ran_session (views g.H.Disk.Disk g.H.Link.Link.state) (answer_in c.args.arguments.now) (offered c.args.extensions.operations c.args.extensions.hooks)
    (state c.args.host.now) (state c.start.new.host) (state c.console.new.self) (exit c.status_of-status.result.0 c.status_of-status.result.1)
    (option_map (λ s. s.value) c.in-Ok.started.opened) session.disk c.of-begun.result.value _ session.link session.end session.past
    first _ c.in-Ok.started.decoder.limits session.closed c.of-begun.ensures c.status_of-status.ensures started c.in-Ok-console.ensures
    c.runs_leave_their_files.ensures c.serve_link-session.ensures.past c.serve_link-session.ensures.left c.serve_link-session.ensures.served
