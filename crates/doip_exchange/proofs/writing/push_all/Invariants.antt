use Rattle.std.proofs.Common.{◌≡◌, ◌++◌, take}
use Rattle.doip_exchange.proofs.writing.push_all.Given as goal

-- the parts are added up to here
abbrev pub invariant-loop-i : goal.invariant-loop-i
invariant-loop-i l = l.message.segments ≡ l.fn.message.segments ++ take l.i l.parts.segments
