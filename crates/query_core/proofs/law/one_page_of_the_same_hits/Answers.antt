use Rattle.query_core.proofs.SetLemmas.{same_hits}
use Rattle.query_core.proofs.law.one_page_of_the_same_hits.Goals as goal

pub returns : goal.returns
returns c = same_hits
