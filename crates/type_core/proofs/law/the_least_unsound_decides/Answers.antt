use Rattle.type_core.proofs.SoundLemmas.{sound_from_none, none_unsound}
use Rattle.type_core.proofs.law.the_least_unsound_decides.Goals as goal

pub returns : goal.returns
returns c = record { sound = sound_from_none; none = none_unsound }
