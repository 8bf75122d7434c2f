use Rattle.std.proofs.Common.{◌<◌, ◌⊎◌}
use Rattle.session_core.specs.Reading.{FeedsHeld, OnlyReads, stage}
use Rattle.session_core.proofs.Flow.{Passes}
use Rattle.session_core.proofs.reader.Reader.next.Given as goal

-- what the link gave so far has gone through the reader
abbrev pub invariant-loop-place : goal.invariant-loop-place
invariant-loop-place g l = record {
  passed : Passes (stage l.fn.self (g.L.Link.state l.fn.link) l.fn.decoder)
      (stage l.self (g.L.Link.state l.link) l.decoder);
  spends : ((g.L.Link.state l.link).reads < (g.L.Link.state l.fn.link).reads)
      ⊎ FeedsHeld l.fn.self l.self l.fn.decoder l.decoder;
  only_reads : OnlyReads (g.L.Link.state l.fn.link) (g.L.Link.state l.link);
}

abbrev pub decreases-loop-place : goal.decreases-loop-place
decreases-loop-place g l = (g.L.Link.state l.link).reads
