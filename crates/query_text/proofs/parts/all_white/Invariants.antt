use Rattle.std.proofs.Common.{◌≡◌, drop}
use Rattle.query_text.specs.Parts.{all_white}
use Rattle.query_text.proofs.parts.all_white.Given as goal

abbrev pub invariant-loop-byte : goal.invariant-loop-byte
invariant-loop-byte l = all_white l.bytes ≡ all_white (drop l.byte-index l.bytes)
