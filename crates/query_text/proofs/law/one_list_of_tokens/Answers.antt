use Rattle.query_text.proofs.OneSpelling.{one_list_of_tokens}
use Rattle.query_text.proofs.law.one_list_of_tokens.Goals as goal

pub returns : goal.returns
returns c = one_list_of_tokens
