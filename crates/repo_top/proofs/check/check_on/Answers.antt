use Rattle.std.proofs.Common.{refl, sym, subst, ◌∙◌}
use Rattle.disk_core.specs.Runs.{LeavesAlone}
use Rattle.repo_top.specs.declared.check.Numbers.{Numbers}
use Rattle.repo_top.specs.Files.{CheckLeaves, IsChecked, Prints, number_lines}
use Rattle.repo_top.proofs.Ends.{check_done, check_refused, check_unprinted, file_checked}
use Rattle.repo_top.proofs.check.check_on.Goals as goal

pub returns-in-Ok-text : goal.returns-in-Ok-text
returns-in-Ok-text g c =
    let n = c.numbers_of.result in
    let read = c.numbers_of.ensures in
    let checked : IsChecked n (g.D.Disk.state c.args.disk) (g.D.Disk.state c.into_disk-disk.result) = subst (λ disk. IsChecked n (g.D.Disk.state c.args.disk) (g.D.Disk.state disk)) (sym c.into_disk-disk.ensures)
    (file_checked (g.D.Disk.state c.args.disk) c.in-Ok.journal c.in-Ok.table.contents n c.in-Ok.ensures.opened
    read.objects read.counter read.number read.used read.area read.side) in
    record {
      numbers = n;
      file = check_done n c.print_last.result (g.D.Disk.state c.args.disk) (g.D.Disk.state c.into_disk-disk.result)
          c.print_last.ensures.ended checked;
      out = subst (λ text. Prints c.print_last.result text (g.S.Sink.state c.args.out.now)
          (g.S.Sink.state c.print_last.new.out)) (c.as_bytes.ensures.value ∙ c.in-Ok-text.ensures) c.print_last.ensures.printed;
    }

pub returns-in-Ok : goal.returns-in-Ok
returns-in-Ok g c =
    let n = c.numbers_of.result in
    record {
      numbers = n;
      file = subst (λ disk. LeavesAlone (g.D.Disk.state c.args.disk) (g.D.Disk.state disk)) (sym c.into_disk-disk.ensures)
          c.in-Ok.ensures.opened.alone;
      out = refl;
    }

pub returns : goal.returns
returns g c =
    let n : Numbers = record { objects = 0; counter = 0; used = 0; area = 0; side = 0; number = 0 } in
    record {
      numbers = n;
      file = subst (λ end. CheckLeaves n end (g.D.Disk.state c.args.disk) (g.D.Disk.state c.in-Err.disk))
          (sym c.end_of_refusal-end.ensures)
          (check_refused n (g.D.Disk.state c.args.disk) (g.D.Disk.state c.in-Err.disk) c.in-Err.fault
          c.fault_count.result c.fault_count.ensures c.in-Err.ensures.refused);
      out = subst (λ end. Prints end (number_lines n) (g.S.Sink.state c.args.out.now) (g.S.Sink.state c.args.out.now))
          (sym c.end_of_refusal-end.ensures)
          (check_unprinted c.in-Err.fault c.fault_count.result (number_lines n) (g.S.Sink.state c.args.out.now));
    }
