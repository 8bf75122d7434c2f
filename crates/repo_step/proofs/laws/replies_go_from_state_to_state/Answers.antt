use Rattle.repo_step.proofs.Histories.{state-append, exchanges-append, exchanges_more, exchanges_none}
use Rattle.repo_step.proofs.laws.replies_go_from_state_to_state.Goals as goal

pub returns : goal.returns
returns c = record {
  goes_on = λ setting passes first before later. record {
    state = state-append setting (λ e. e) first before later;
    exchanges = exchanges-append setting (λ e. e) passes first before later;
  };
  adds_one = λ setting passes first before e is. exchanges_more setting (λ e. e) passes first before e is;
  none = λ setting passes first history none. exchanges_none setting (λ e. e) passes first history none;
}
