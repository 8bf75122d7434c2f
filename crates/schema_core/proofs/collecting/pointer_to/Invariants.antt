use Rattle.std.proofs.Common.{◌≡◌, ◌++◌, drop, string_bytes}
use Rattle.doip_json.specs.Written.{pointer_of}
use Rattle.schema_core.proofs.collecting.pointer_to.Given as goal

abbrev pub invariant-loop-i : goal.invariant-loop-i
invariant-loop-i l = string_bytes l.pointer ++ pointer_of (drop l.i l.names.items) ≡ pointer_of l.names.items
