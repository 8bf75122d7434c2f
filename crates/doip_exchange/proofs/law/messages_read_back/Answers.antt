use Rattle.doip_exchange.proofs.QuestionLemmas.{sound_question_back}
use Rattle.doip_exchange.proofs.AnswerLemmas.{sound_answer_back, never_memory}
use Rattle.doip_exchange.proofs.law.messages_read_back.Goals as goal

pub returns-clause-requests : goal.returns-clause-requests
returns-clause-requests c = sound_question_back

pub returns-clause-responses : goal.returns-clause-responses
returns-clause-responses c = sound_answer_back

pub returns-clause-memory : goal.returns-clause-memory
returns-clause-memory c = never_memory
