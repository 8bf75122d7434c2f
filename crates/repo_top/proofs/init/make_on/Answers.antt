use Rattle.std.proofs.Common.{sym, subst}
use Rattle.repo_top.specs.Files.{InitLeaves, Prints, made_line}
use Rattle.repo_top.proofs.Ends.{init_done, init_refused, init_unprinted}
use Rattle.repo_top.proofs.init.make_on.Goals as goal

pub returns-in-Ok-clause-file : goal.returns-in-Ok-clause-file
returns-in-Ok-clause-file g c =
    init_done c.args.area c.print_made.result (g.D.Disk.state c.args.disk) (g.D.Disk.state c.in-Ok.disk)
    c.print_made.ensures.ended c.in-Ok.ensures.made

pub returns-in-Err-clause-file : goal.returns-in-Err-clause-file
returns-in-Err-clause-file g c =
    subst (λ end. InitLeaves c.args.area end (g.D.Disk.state c.args.disk) (g.D.Disk.state c.in-Err.disk))
    (sym c.end_of_refusal-end.ensures)
    (init_refused c.args.area (g.D.Disk.state c.args.disk) (g.D.Disk.state c.in-Err.disk) c.in-Err.fault
    c.fault_count.result c.fault_count.ensures c.in-Err.ensures.refused)

pub returns-in-Err-clause-out : goal.returns-in-Err-clause-out
returns-in-Err-clause-out g c =
    subst (λ end. Prints end (made_line c.args.area) (g.S.Sink.state c.args.out.now) (g.S.Sink.state c.args.out.now))
    (sym c.end_of_refusal-end.ensures)
    (init_unprinted c.in-Err.fault c.fault_count.result (made_line c.args.area) (g.S.Sink.state c.args.out.now))
