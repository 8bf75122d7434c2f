use Rattle.doip_client.proofs.OneAnswer.{one_answer}
use Rattle.doip_client.proofs.law.one_input_has_one_answer.Goals as goal

pub returns : goal.returns
returns c = one_answer
