use Rattle.std.proofs.Common.{take}
use Rattle.repo_state.specs.Replayed.{AreReplayed}
use Rattle.repo_state.proofs.opening.replayed.Given as goal

-- what the records before this place give
abbrev pub invariant-records : goal.invariant-records
invariant-records l = AreReplayed l.format (take l.index l.records) l.replay
