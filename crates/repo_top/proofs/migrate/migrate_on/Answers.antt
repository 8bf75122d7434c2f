use Rattle.std.proofs.Common.{Result, Err, subst}
use Rattle.store_files.specs.declared.migration.Migration.{Migration}
use Rattle.store_files.specs.declared.migration.Migration.TheVariants.{Already}
use Rattle.store_files.specs.First.{Migrates}
use Rattle.store_files.specs.declared.fault.RewriteFault.{RewriteFault}
use Rattle.repo_top.specs.Rewrites.{migrated_line}
use Rattle.repo_top.proofs.Ends.{rewrite_refused, rewrite_unprinted}
use Rattle.repo_top.proofs.migrate.migrate_on.Goals as goal

pub returns-in-Err : goal.returns-in-Err
returns-in-Err g c =
    let before = g.D.Disk.state c.args.disk in
    let after = g.D.Disk.state c.migrate_file-disk.result.0 in
    let does : Migrates before after (Err c.in-Err.fault) =
    subst (λ (r : Result Migration RewriteFault). Migrates before after r) c.in-Err.is c.migrate_file-disk.ensures in
    let done : Migration = Already in
    record {
      done = done;
      file = rewrite_refused Migrates done before after c.in-Err.fault c.fault_count.result c.fault_count.ensures does
          c.end_of_rewrite-end.result c.end_of_rewrite-end.ensures;
      out = rewrite_unprinted c.in-Err.fault c.fault_count.result (migrated_line done) (g.S.Sink.state c.args.out.now)
          c.end_of_rewrite-end.result c.end_of_rewrite-end.ensures;
    }
