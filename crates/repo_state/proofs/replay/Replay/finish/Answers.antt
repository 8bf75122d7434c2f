use Rattle.std.proofs.Common.{subst}
use Rattle.repo_state.specs.Rows.{objects_in}
use Rattle.repo_state.specs.Sound.{AreNamed}
use Rattle.repo_state.proofs.Soundness.{sound_from_none}
use Rattle.repo_state.proofs.replay.Replay.finish.Goals as goal

pub of-requires-2 : goal.of-requires-2
of-requires-2 c = record {
  named = subst (λ k. AreNamed (objects_in k.rows)) c.rows.view_is c.rows.invariant;
  sound = sound_from_none _ c.in_default.ensures;
  first = c.self.invariant.0;
  last = c.self.invariant.1;
}
