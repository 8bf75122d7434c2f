use Rattle.std.proofs.Common.{Some, ap}
use Rattle.doip_json.specs.Meaning.{value_of}
use Rattle.record_core.proofs.Found.{list_found}
use Rattle.record_core.proofs.leaves.items_of.Goals as goal

pub returns-in-Items : goal.returns-in-Items
returns-in-Items c = list_found (Some (value_of c.args.value)) c.in-Items.items (ap (λ v. Some (value_of v)) c.in-Items.is)
