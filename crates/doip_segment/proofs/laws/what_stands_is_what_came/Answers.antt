use Rattle.doip_segment.proofs.FeedLemmas.{stands_framed}
use Rattle.doip_segment.proofs.laws.what_stands_is_what_came.Goals as goal

pub returns : goal.returns
returns c = stands_framed
