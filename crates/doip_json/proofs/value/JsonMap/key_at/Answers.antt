use Rattle.doip_json.proofs.Entries.{key_read}
use Rattle.doip_json.proofs.value.JsonMap.key_at.Goals as goal

pub returns : goal.returns
returns c = rw (← c.self.view_is) (key_read c.self.inside.entries.items c.args.i c.index.result.now (rw c.self.view_is c.requires) c.index.ensures)
