use Rattle.type_core.proofs.RemoveLemmas.{sound_without, missing_is}
use Rattle.type_core.proofs.law.removals_leave_what_leans.Goals as goal

pub returns : goal.returns
returns c = record { one = sound_without; in_the_way = missing_is }
