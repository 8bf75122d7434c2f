use Rattle.doip_segment.proofs.LawLemmas.{one_broken}
use Rattle.doip_segment.proofs.laws.each_stream_breaks_once.Goals as goal

pub returns : goal.returns
returns c = one_broken
