use Rattle.repo_state.proofs.RecordLemmas.{one_list, all_read, one_more, replay_more}
use Rattle.repo_state.proofs.law.records_decide_changes.Goals as goal

pub returns : goal.returns
returns c = record {
  one = one_list c.bodies_decide_changes.ensures;
  read = all_read;
  more = one_more;
  after = replay_more;
}
