use Rattle.std.proofs.Common.{Ok, sym, subst}
use Rattle.link_core.specs.Host.{HandsOutDisk}
use Rattle.store_files.specs.declared.migration.Migration.{Migration}
use Rattle.store_files.specs.declared.migration.Migration.TheVariants.{Already}
use Rattle.store_files.specs.First.{Migrates}
use Rattle.repo_top.specs.Rewrites.{RewriteLeaves}
use Rattle.repo_top.proofs.Ends.{host_refused, host_unprinted, none_handed_back}
use Rattle.repo_top.proofs.migrate.migrate_at.Goals as goal

pub returns-in-Err-clause-host : goal.returns-in-Err-clause-host
returns-in-Err-clause-host g c =
    let run = c.without_disk.result in
    host_refused g.H.Disk.Disk.state c.in-Err.fault _ run.end c.without_disk.ensures.opened
    c.without_disk.ensures.end c.args.path.now (g.H.Host.state c.args.host.now) (g.H.Host.state c.disk.new.self)
    c.in-Err.ensures

pub returns-in-Err-clause-rewrites : goal.returns-in-Err-clause-rewrites
returns-in-Err-clause-rewrites g c =
    let run = c.without_disk.result in
    let done : Migration = Already in
    record {
      done = done;
      file = none_handed_back g.H.Disk.Disk.state c.in-Err.fault _ run.end
          c.without_disk.ensures.opened c.without_disk.ensures.end (RewriteLeaves Migrates done) run.disk c.without_disk.ensures.disk;
      out = host_unprinted c.in-Err.fault run.end c.without_disk.ensures.end _ (g.S.Sink.state c.args.out.now);
    }

pub returns-clause-host : goal.returns-clause-host
returns-clause-host g c =
    subst (λ disk. HandsOutDisk g.H.Disk.Disk.state c.args.path.now (g.H.Host.state c.args.host.now)
    (g.H.Host.state c.disk.new.self) (Ok disk)) (sym c.of-opened.ensures) c.in-Ok.ensures

pub returns-clause-rewrites : goal.returns-clause-rewrites
returns-clause-rewrites g c =
    let did = c.migrate_on-disk.ensures in
    record {
      done = did.done;
      file = subst (λ disk. RewriteLeaves Migrates did.done c.migrate_on-disk.result.1 (g.H.Disk.Disk.state disk)
          (g.H.Disk.Disk.state c.migrate_on-disk.result.0)) (sym c.of-opened.ensures) did.file;
      out = did.out;
    }
