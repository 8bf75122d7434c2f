use Rattle.std.proofs.Common.{Result, Err, subst}
use Rattle.journal_core.specs.declared.journal.Room.{Room}
use Rattle.store_files.specs.Rewriting.{Compacts}
use Rattle.store_files.specs.declared.fault.RewriteFault.{RewriteFault}
use Rattle.repo_top.specs.Rewrites.{used_line}
use Rattle.repo_top.proofs.Ends.{rewrite_refused, rewrite_unprinted}
use Rattle.repo_top.proofs.compact.compact_on.Goals as goal

pub returns-in-Err : goal.returns-in-Err
returns-in-Err g c =
    let before = g.D.Disk.state c.args.disk in
    let after = g.D.Disk.state c.compact_file-disk.result.0 in
    let does : Compacts before after (Err c.in-Err.fault) =
    subst (λ (r : Result Room RewriteFault). Compacts before after r) c.in-Err.is c.compact_file-disk.ensures in
    let done : Room = record { used = 0; area = 0 } in
    record {
      done = done;
      file = rewrite_refused Compacts done before after c.in-Err.fault c.fault_count.result c.fault_count.ensures does
          c.end_of_rewrite-end.result c.end_of_rewrite-end.ensures;
      out = rewrite_unprinted c.in-Err.fault c.fault_count.result (used_line done) (g.S.Sink.state c.args.out.now)
          c.end_of_rewrite-end.result c.end_of_rewrite-end.ensures;
    }
