use Rattle.std.proofs.Common.{length, take, ◌-◌, ◌≡◌, ◌≤◌}
use Rattle.std.specs.Io.KnownBytes.{Appends}
use Rattle.link_core.specs.Link.{KeepsInput}
use Rattle.session_core.proofs.saying.say.Given as goal

-- a prefix of the bytes was written, and nothing else has changed
abbrev pub invariant-loop-said : goal.invariant-loop-said
invariant-loop-said g l = record {
  within : l.said ≤ length l.bytes;
  written : Appends (g.L.Link.state l.fn.link).written (g.L.Link.state l.link).written (take l.said l.bytes);
  input : KeepsInput (g.L.Link.state l.fn.link) (g.L.Link.state l.link);
  later : (g.L.Link.state l.fn.link).faults ≤ (g.L.Link.state l.link).faults;
  closed : (g.L.Link.state l.link).closed ≡ (g.L.Link.state l.fn.link).closed;
}

abbrev pub decreases-loop-said : goal.decreases-loop-said
decreases-loop-said g l = length l.bytes - l.said
