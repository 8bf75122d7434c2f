use Rattle.std.proofs.Common.{◌≡◌, length, IsUtf8}
use Rattle.doip_json.specs.Meaning.{value_of}
use Rattle.doip_json.specs.Pointer.{pointed, followed, parts_of}
use Rattle.doip_json.proofs.pointer.at_pointer.Given as goal

abbrev pub invariant-tokens : goal.invariant-tokens
invariant-tokens l = (pointed l.fn.pointer (value_of l.fn.value) ≡ followed (parts_of l.rest) (value_of l.found)) × IsUtf8 l.rest

abbrev pub decreases-tokens : goal.decreases-tokens
decreases-tokens l = length l.rest
