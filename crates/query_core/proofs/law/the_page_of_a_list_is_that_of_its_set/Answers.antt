use Rattle.query_core.proofs.SetLemmas.{hits_page}
use Rattle.query_core.proofs.law.the_page_of_a_list_is_that_of_its_set.Goals as goal

pub returns : goal.returns
returns c = hits_page
