use Rattle.doip_json.specs.Meaning.{value_of}
use Rattle.doip_json.proofs.ReadBack.{reading-text_of}
use Rattle.doip_json.proofs.law.reads_back.Goals as goal

pub returns : goal.returns
returns c = reading-text_of (value_of c.args.value.now) c.args.depth c.recall.ensures c.requires.keeps c.requires.high
