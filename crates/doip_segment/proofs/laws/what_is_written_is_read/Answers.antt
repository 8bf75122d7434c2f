use Rattle.doip_segment.proofs.LawLemmas.{framed_first}
use Rattle.doip_segment.proofs.CanonicalLemmas.{canonical_spelling}
use Rattle.doip_segment.specs.Canonical.{canonical}
use Rattle.doip_segment.proofs.laws.what_is_written_is_read.Goals as goal

pub returns : goal.returns
returns c = λ limits message after messages rest can within framed. framed_first limits (canonical message) after message messages rest (record { spelling = canonical_spelling message can; within = within }) framed
