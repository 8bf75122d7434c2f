use Rattle.std.proofs.Common.{ap, option_map}
use Rattle.ext_ops.specs.Offered.{offered}
use Rattle.command_line.specs.Command.{answer_in}
use Rattle.repo_store.specs.Store.{seen_of}
use Rattle.repo_step.specs.Setting.{setting_of}
use Rattle.repo_top.proofs.StartLemmas.{has_started, no_disk_start, no_store_start}
use Rattle.repo_top.proofs.start.start.Goals as goal

pub returns-in-Err-disk_at-clause-no_start : goal.returns-in-Err-disk_at-clause-no_start
returns-in-Err-disk_at-clause-no_start g c =
    let state = g.H.Host.state in
    no_disk_start g.H.Disk.Disk.state (answer_in c.args.arguments.now) (state c.args.host.now)
    (state c.prepare_with_accounts.new.host) (state c.disk_at.new.host) c.in-Err-disk_at.fault c.reason_of_host.result
    c.reason_of_host.ensures c.prepare_with_accounts.ensures.host c.in-Err-disk_at.ensures

pub returns-in-Ok-open_store-clause-started : goal.returns-in-Ok-open_store-clause-started
returns-in-Ok-open_store-clause-started g c =
    let state = g.H.Host.state in
    let command = answer_in c.args.arguments.now in
    let offers = offered c.args.extensions.operations c.args.extensions.hooks in
    has_started g.H.Disk.Disk command offers (state c.args.host.now)
    (state c.prepare_with_accounts.new.host) (state c.disk_at.new.host) (state c.clock-clock.new.self)
    (option_map (λ s. s.value) c.snapshot_of-opened.result) c.in-Ok-disk_at.disk (seen_of g.H.Clock.Clock.given c.in-Ok-open_store.store) _ _ c.in-Ok.prepared.decoder.limits
    c.snapshot_of-opened.ensures
    (ap (λ s. setting_of s.config (offered s.extensions.operations s.extensions.hooks)) c.in-Ok-open_store.ensures.planner)
    (c.in-Ok.ensures.set_up offers) c.prepare_with_accounts.ensures.host c.in-Ok-disk_at.ensures
    c.clock-clock.ensures.unchanged c.in-Ok-open_store.ensures.opened c.in-Ok-open_store.ensures.not_closed

pub returns-in-Err-open_store-clause-no_start : goal.returns-in-Err-open_store-clause-no_start
returns-in-Err-open_store-clause-no_start g c =
    let state = g.H.Host.state in
    let command = answer_in c.args.arguments.now in
    let offers = offered c.args.extensions.operations c.args.extensions.hooks in
    no_store_start g.H.Disk.Disk.state command (state c.args.host.now)
    (state c.prepare_with_accounts.new.host) (state c.disk_at.new.host) (state c.clock-clock.new.self)
    (option_map (λ s. s.value) c.snapshot_of-opened.result) c.in-Ok-disk_at.disk c.in-Err-open_store.disk c.in-Err-open_store.reason _ c.snapshot_of-opened.ensures
    (c.in-Ok.ensures.set_up offers).accounts c.prepare_with_accounts.ensures.host c.in-Ok-disk_at.ensures
    c.clock-clock.ensures.unchanged c.in-Err-open_store.ensures.refused
