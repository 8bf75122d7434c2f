use Rattle.type_core.proofs.StatedLemmas.{stated_made, stated_unmade, states_a_type, in_use_is}
use Rattle.type_core.proofs.law.sound_objects_state_their_types.Goals as goal

pub returns : goal.returns
returns c = record { made = stated_made; unmade = stated_unmade; stated = states_a_type; in_use = in_use_is }
