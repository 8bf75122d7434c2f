use Rattle.doip_json.proofs.NoLonger.{no_longer}
use Rattle.doip_json.proofs.law.texts_are_no_longer.Goals as goal

pub returns : goal.returns
returns c = no_longer
