use Rattle.std.proofs.Common.{rules}
use Rattle.disk_core.proofs.PastLemmas.{passes_torn_in, syncs_none_in, clock_in}
use Rattle.disk_core.proofs.memory.MemoryDiskDisk.write_at.Goals as goal

pub returns-clause-disk : goal.returns-clause-disk
returns-clause-disk c = record {
  puts = search rules;
  reported = search rules;
  moves = record {
    clock = clock_in _ _ _ c.in-Ok-true.ensures.noted;
    crash = λ file reported. passes_torn_in _ _ _ _ _ _ c.in-Ok-true.ensures.noted;
    syncs = λ file reported. syncs_none_in _ _ _ c.in-Ok-true.ensures.noted (λ ends. absurd (cc));
  };
  cause = search rules;
}
