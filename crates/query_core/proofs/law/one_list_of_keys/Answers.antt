use Rattle.query_core.proofs.KeyLemmas.{one_list}
use Rattle.query_core.proofs.law.one_list_of_keys.Goals as goal

pub returns : goal.returns
returns c = one_list
