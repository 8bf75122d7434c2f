use Rattle.std.proofs.Common.{◌≡◌, ◌≤◌, not, drop, length}
use Rattle.std.specs.Option.{option_map}
use Rattle.repo_state.specs.Least.{least_of}
use Rattle.repo_state.specs.Rows.{objects_in}
use Rattle.repo_state.specs.Sound.{is_sound_in}
use Rattle.repo_state.proofs.replay.least_unsound.Given as goal

-- the best is the least of the rows from this place on that isn't sound
abbrev pub invariant-loop-place : goal.invariant-loop-place
invariant-loop-place l = record {
  within : l.place ≤ length l.rows.rows;
  least : option_map (λ o. o.now.id) l.best
      ≡ least_of (λ id o. not (is_sound_in (objects_in l.rows.rows) o)) (drop l.place l.rows.rows);
}

abbrev pub decreases-loop-place : goal.decreases-loop-place
decreases-loop-place l = l.place
