use Rattle.std.proofs.Common.{◌≡◌, take, drop}
use Rattle.doip_exchange.proofs.reading.parts_of.Given as goal

-- the segments after the first are copied up to here
abbrev pub invariant-loop-i : goal.invariant-loop-i
invariant-loop-i l = l.parts.segments ≡ drop 1 (take l.i l.message.segments)
