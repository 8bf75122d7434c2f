use Rattle.doip_json.proofs.Named.{pointed-pointer_of}
use Rattle.doip_json.proofs.law.written_pointers_find.Goals as goal

pub returns : goal.returns
returns c = pointed-pointer_of
