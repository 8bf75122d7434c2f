use Rattle.std.proofs.Common.{Ok, sym, subst}
use Rattle.link_core.specs.Host.{HandsOutDisk}
use Rattle.repo_top.specs.Files.{CheckLeaves}
use Rattle.repo_top.proofs.Ends.{host_refused, host_unprinted, none_handed_back}
use Rattle.repo_top.proofs.check.check_file.Goals as goal

pub returns-in-Err-clause-host : goal.returns-in-Err-clause-host
returns-in-Err-clause-host g c =
    let run = c.without_disk.result in
    host_refused g.H.Disk.Disk.state c.in-Err.fault _ run.end c.without_disk.ensures.opened
    c.without_disk.ensures.end c.args.path.now (g.H.Host.state c.args.host.now) (g.H.Host.state c.disk.new.self)
    c.in-Err.ensures

pub returns-in-Err-clause-checks : goal.returns-in-Err-clause-checks
returns-in-Err-clause-checks g c =
    let run = c.without_disk.result in
    record {
      numbers = record { objects = 0; counter = 0; used = 0; area = 0; side = 0; number = 0 };
      file = none_handed_back g.H.Disk.Disk.state c.in-Err.fault _ run.end
          c.without_disk.ensures.opened c.without_disk.ensures.end (CheckLeaves _) run.disk c.without_disk.ensures.disk;
      out = host_unprinted c.in-Err.fault run.end c.without_disk.ensures.end _ (g.S.Sink.state c.args.out.now);
    }

pub returns-clause-host : goal.returns-clause-host
returns-clause-host g c =
    subst (λ disk. HandsOutDisk g.H.Disk.Disk.state c.args.path.now (g.H.Host.state c.args.host.now)
    (g.H.Host.state c.disk.new.self) (Ok disk)) (sym c.of-opened.ensures) c.in-Ok.ensures

pub returns-clause-checks : goal.returns-clause-checks
returns-clause-checks g c =
    let checks = c.check_on-disk.ensures in
    record {
      numbers = checks.numbers;
      file = subst (λ disk. CheckLeaves checks.numbers c.check_on-disk.result.1 (g.H.Disk.Disk.state disk)
          (g.H.Disk.Disk.state c.check_on-disk.result.0)) (sym c.of-opened.ensures) checks.file;
      out = checks.out;
    }
