use Rattle.std.proofs.Common.{Result, sym, subst}
use Rattle.store_files.specs.First.{Migrates}
use Rattle.store_files.specs.declared.fault.RewriteFault.{RewriteFault}
use Rattle.store_files.specs.declared.migration.Migration.{Migration}
use Rattle.store_files.proofs.Migrating.{not_read}
use Rattle.store_files.proofs.migration.migrate_file.Goals as goal

pub returns-in-Err : goal.returns-in-Err
returns-in-Err g c =
    let state = g.D.Disk.state in
    subst (λ (r : Result Migration RewriteFault). Migrates (state c.args.disk) (state c.in-Err.disk) r) (sym c.left_unread.ensures)
    (not_read (state c.args.disk) (state c.in-Err.disk) c.in-Err.fault c.in-Err.ensures.refused)
