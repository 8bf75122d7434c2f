use Rattle.std.proofs.Common.{Ok, sym, subst}
use Rattle.link_core.specs.Host.{HandsOutDisk}
use Rattle.repo_top.specs.Files.{InitLeaves, made_line}
use Rattle.repo_top.proofs.Ends.{host_refused, host_unprinted, none_handed_back}
use Rattle.repo_top.proofs.init.make_file.Goals as goal

pub returns-in-Err-clause-host : goal.returns-in-Err-clause-host
returns-in-Err-clause-host g c =
    let run = c.without_disk.result in
    host_refused g.H.Disk.Disk.state c.in-Err.fault _ run.end c.without_disk.ensures.opened
    c.without_disk.ensures.end c.args.path.now (g.H.Host.state c.args.host.now) (g.H.Host.state c.disk.new.self)
    c.in-Err.ensures

pub returns-in-Err-clause-file : goal.returns-in-Err-clause-file
returns-in-Err-clause-file g c =
    let run = c.without_disk.result in
    none_handed_back g.H.Disk.Disk.state c.in-Err.fault _ run.end c.without_disk.ensures.opened
    c.without_disk.ensures.end (InitLeaves c.args.area) run.disk c.without_disk.ensures.disk

pub returns-in-Err-clause-out : goal.returns-in-Err-clause-out
returns-in-Err-clause-out g c =
    host_unprinted c.in-Err.fault c.without_disk.result.end c.without_disk.ensures.end (made_line c.args.area)
    (g.S.Sink.state c.args.out.now)

pub returns-clause-host : goal.returns-clause-host
returns-clause-host g c =
    subst (λ disk. HandsOutDisk g.H.Disk.Disk.state c.args.path.now (g.H.Host.state c.args.host.now)
    (g.H.Host.state c.disk.new.self) (Ok disk)) (sym c.of-opened.ensures) c.in-Ok.ensures

pub returns-clause-file : goal.returns-clause-file
returns-clause-file g c =
    subst (λ disk. InitLeaves c.args.area c.make_on-disk.result.1 (g.H.Disk.Disk.state disk)
    (g.H.Disk.Disk.state c.make_on-disk.result.0)) (sym c.of-opened.ensures) c.make_on-disk.ensures.file
