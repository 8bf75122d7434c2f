use Rattle.type_core.proofs.KeptLemmas.{stated_with, stated_without, schema_is}
use Rattle.type_core.proofs.StatedLemmas.{free_before}
use Rattle.type_core.proofs.law.types_follow_changes.Goals as goal

pub returns : goal.returns
returns c = record { put = stated_with; free = free_before; removal = stated_without; schema = schema_is }
