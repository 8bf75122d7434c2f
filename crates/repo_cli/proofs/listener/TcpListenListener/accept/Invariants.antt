use Rattle.std.proofs.Common.{◌≡◌}
use Rattle.repo_cli.specs.Real.{count_of}
use Rattle.repo_cli.proofs.listener.TcpListenListener.accept.Given as goal

-- no fault is counted as long as connections are passed over
abbrev pub invariant-loop : goal.invariant-loop
invariant-loop l = count_of l.self.faults ≡ count_of l.fn.self.faults
