use Rattle.doip_segment.proofs.LawLemmas.{framing, one_framing}
use Rattle.doip_segment.proofs.laws.each_stream_has_one_framing.Goals as goal

pub returns-clause-some : goal.returns-clause-some
returns-clause-some c = λ limits bytes. let f = framing limits bytes in (f.messages, f.rest, f.framed)

pub returns-clause-only : goal.returns-clause-only
returns-clause-only c = one_framing
