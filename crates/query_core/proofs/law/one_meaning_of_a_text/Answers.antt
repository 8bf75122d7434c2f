use Rattle.query_core.proofs.MeaningLemmas.{one_meaning}
use Rattle.query_core.proofs.law.one_meaning_of_a_text.Goals as goal

pub returns : goal.returns
returns c = one_meaning
