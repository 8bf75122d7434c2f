use Rattle.doip_json.specs.Meaning.{pairs_of}
use Rattle.doip_json.proofs.Entries.{ascends}
use Rattle.doip_json.proofs.value.JsonMap.len.Goals as goal

pub returns-clause-ascending : goal.returns-clause-ascending
returns-clause-ascending c = rw (← c.self.view_is) (ascends (pairs_of c.self.inside.entries.items) c.self.invariant)
