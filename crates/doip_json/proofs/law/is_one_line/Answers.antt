use Rattle.doip_json.specs.Meaning.{value_of}
use Rattle.doip_json.specs.Text.{text_of}
use Rattle.doip_json.proofs.Shape.{IsOneLine-text_of}
use Rattle.doip_json.proofs.OneLine.{no_feed}
use Rattle.doip_json.proofs.law.is_one_line.Goals as goal

pub returns : goal.returns
returns c = let shape = IsOneLine-text_of (value_of c.args.value.now) c.recall.ensures in no_feed (text_of (value_of c.args.value.now)) shape.printable
