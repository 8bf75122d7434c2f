use Rattle.repo_step.specs.History.{is_of}
use Rattle.repo_step.proofs.Histories.{pairs_same}
use Rattle.repo_step.proofs.laws.equal_causes_give_equal_texts.Goals as goal

pub returns : goal.returns
returns c =
    λ setting first lane session other_lane other_session history other all others same.
    pairs_same setting (λ e. e) (λ e. e) (is_of lane session) (is_of other_lane other_session) first history other
    all others same
