use Rattle.std.proofs.Common.{length, true, ◌-◌, ◌≡◌, ◌≤◌}
use Rattle.doip_segment.specs.Machine.{is_done}
use Rattle.doip_segment.specs.Advance.{Advances}
use Rattle.doip_segment.proofs.decoder.Decoder.take_all.Given as goal

abbrev pub invariant-loop-used : goal.invariant-loop-used
invariant-loop-used l =
    record {
      within : l.used ≤ length l.piece;
      done : is_done l.fn.self.reading.phase ≡ true → (l.used ≡ 0) × (l.self ≡ l.fn.self);
      advances : Advances l.used l.piece l.fn.self l.self;
    }

abbrev pub decreases-loop-used : goal.decreases-loop-used
decreases-loop-used l = length l.piece - l.used
