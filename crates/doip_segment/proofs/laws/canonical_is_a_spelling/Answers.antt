use Rattle.doip_segment.proofs.CanonicalLemmas.{canonical_spelling}
use Rattle.doip_segment.proofs.laws.canonical_is_a_spelling.Goals as goal

pub returns : goal.returns
returns c = canonical_spelling
