use Rattle.lane_server.proofs.LaneLemmas.{holds_alone}
use Rattle.lane_server.proofs.tests.close.Goals as goal

pub close-value-requires-clause-all : goal.close-value-requires-clause-all
close-value-requires-clause-all g c = holds_alone _ _ c.requires.passes c.requires.alone
