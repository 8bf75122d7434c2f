use Rattle.doip_message.proofs.AppendedLemmas.{value_text, segments_text, nothing_text, refused_text}
use Rattle.doip_message.proofs.appending.parts_make_a_reply.Goals as goal

pub returns : goal.returns
returns c = record { value = value_text; segments = segments_text; nothing = nothing_text; refusal = refused_text }
