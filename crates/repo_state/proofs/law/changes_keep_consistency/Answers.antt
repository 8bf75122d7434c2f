use Rattle.repo_state.proofs.Soundness.{consistent_put, consistent_removed, consistent_counter}
use Rattle.repo_state.proofs.law.changes_keep_consistency.Goals as goal

pub returns : goal.returns
returns c = record { put = consistent_put; remove = consistent_removed; counter = consistent_counter }
