use Rattle.type_core.proofs.ReplaceLemmas.{losing_is}
use Rattle.type_core.proofs.law.replacements_leave_a_type.Goals as goal

pub returns : goal.returns
returns c = record { in_the_way = losing_is }
