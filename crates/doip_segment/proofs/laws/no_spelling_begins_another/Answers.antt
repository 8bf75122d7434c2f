use Rattle.doip_segment.proofs.LawLemmas.{one_spelling}
use Rattle.doip_segment.proofs.laws.no_spelling_begins_another.Goals as goal

pub returns : goal.returns
returns c = one_spelling
