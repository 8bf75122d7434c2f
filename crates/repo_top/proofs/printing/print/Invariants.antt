use Rattle.std.proofs.Common.{length, take, ◌-◌, ◌≤◌}
use Rattle.std.specs.Io.KnownBytes.{Appends}
use Rattle.repo_top.proofs.printing.print.Given as goal

-- a prefix of the text was printed
abbrev pub invariant-loop-printed : goal.invariant-loop-printed
invariant-loop-printed g l = record {
  within : l.printed ≤ length l.text;
  written : Appends (g.S.Sink.state l.fn.out).written (g.S.Sink.state l.out).written (take l.printed l.text);
  later : (g.S.Sink.state l.fn.out).faults ≤ (g.S.Sink.state l.out).faults;
}

abbrev pub decreases-loop-printed : goal.decreases-loop-printed
decreases-loop-printed g l = length l.text - l.printed
