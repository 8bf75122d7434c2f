use Rattle.std.proofs.Common.{◌≡◌, ◌++◌, reverse, vec_len, string_bytes}
use Rattle.doip_json.specs.Written.{pointer_of}
use Rattle.schema_core.proofs.pointer.written.Given as goal

abbrev pub invariant-loop-name : goal.invariant-loop-name
invariant-loop-name l = string_bytes l.pointer ++ pointer_of (reverse l.names.items) ≡ pointer_of (reverse l.fn.names.items)

abbrev pub decreases-loop-name : goal.decreases-loop-name
decreases-loop-name l = vec_len l.names
