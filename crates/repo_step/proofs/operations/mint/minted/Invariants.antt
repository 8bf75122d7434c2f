use Rattle.std.proofs.Common.{◌≡◌, ◌-◌, []}
use Rattle.ext_ops.specs.Offered.{offered}
use Rattle.repo_state.specs.Sound.{last_counter}
use Rattle.repo_step.specs.Turn.{setting_in, state_in}
use Rattle.repo_step.specs.operations.Mint.{first_from, is_free, numbered, minted}
use Rattle.repo_step.proofs.operations.mint.minted.Given as goal

-- no number so far has a free identifier; what extensions offer doesn't matter
abbrev pub invariant-loop-number : goal.invariant-loop-number
invariant-loop-number l =
    let setting = setting_in l.turn (offered [] []) in
    first_from (λ n. is_free setting (state_in l.turn).contents (numbered setting.prefix n)) (last_counter - l.number) l.number
    ≡ minted setting (state_in l.turn).contents
