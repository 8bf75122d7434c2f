use Rattle.std.proofs.Common.{subst, IsUtf8}
use Rattle.doip_message.specs.Reply.{replied_of}
use Rattle.doip_exchange.proofs.AnswerLemmas.{sound_answer_back}
use Rattle.doip_exchange.proofs.SoundAnswers.{sound_answer}
use Rattle.doip_exchange.proofs.law.response_reads_back.Goals as goal

pub returns : goal.returns
returns c =
    let p = replied_of c.args.reply.now in
    sound_answer_back p c.requires
    (sound_answer p c.recall_map.ensures c.recall_output.ensures c.recall_id.ensures (subst IsUtf8 c.text.ensures c.text.utf8))
