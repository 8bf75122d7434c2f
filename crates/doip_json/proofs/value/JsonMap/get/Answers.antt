use Rattle.std.proofs.Common.{sym}
use Rattle.doip_json.proofs.Found.{found, absent}
use Rattle.doip_json.proofs.value.JsonMap.get.Goals as goal

pub returns-in-Ok : goal.returns-in-Ok
returns-in-Ok c =
    let place = c.in-Ok.ensures.found in
    sym (found c.args.self.now c.args.key.now c.in-Ok.at _ c.in-Ok.ensures.ascends place.within place.has_key c.value_at.ensures)

pub returns-in-Err : goal.returns-in-Err
returns-in-Err c = sym (absent c.args.self.now c.args.key.now c.in-Err.field-0 c.in-Err.ensures.absent)
