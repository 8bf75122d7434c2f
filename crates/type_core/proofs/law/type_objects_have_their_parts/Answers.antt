use Rattle.type_core.proofs.StatedLemmas.{parts_in}
use Rattle.type_core.proofs.law.type_objects_have_their_parts.Goals as goal

pub returns : goal.returns
returns c = parts_in
