use Rattle.std.proofs.Common.{◌≡◌, ◌&&◌, nat_eq, drop}
use Rattle.std.specs.Cmp.Lexicographic.{pointwise}
use Rattle.acl_core.proofs.caller.is_equal.Given as goal

abbrev pub invariant-loop-i : goal.invariant-loop-i
invariant-loop-i l = l.equal && pointwise nat_eq (drop l.i l.a) (drop l.i l.b) ≡ pointwise nat_eq l.a l.b
