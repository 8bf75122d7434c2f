-- It owns nothing, so any thread may share it.
use denote.RattleType.{RattleType}
use denote.Param.Send.{IsSync, part_keyless}
use Rattle.history_lock.specs.contracts.chosen.Chosen.{the_row}
use Rattle.history_lock.proofs.chosen.Chosen.TheSendSync.Send.{send}

pub sync : (E : RattleType) → IsSync (the_row E)
sync E = record { shared = λ d b o κ q. part_keyless (the_row E) (send E) q d b o }
