use Rattle.disk_core.proofs.PastLemmas.{passes_same_in}
use Rattle.disk_core.proofs.memory.MemoryDisk.pass.Goals as goal

pub returns-in-Ok-true-clause-crash : goal.returns-in-Ok-true-clause-crash
returns-in-Ok-true-clause-crash c = λ file told.
    passes_same_in _ _ _ _ c.in-Ok-true.ensures.noted c.requires
