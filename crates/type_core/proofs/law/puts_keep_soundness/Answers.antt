use Rattle.type_core.proofs.PutLemmas.{sound_put}
use Rattle.type_core.proofs.law.puts_keep_soundness.Goals as goal

pub returns : goal.returns
returns c = record { sound = sound_put }
