use Rattle.std.proofs.Common.{◌≡◌, drop}
use Rattle.query_core.specs.Order.{by_keys}
use Rattle.query_core.proofs.order.Order.compare.Given as goal

abbrev pub invariant-loop-key : goal.invariant-loop-key
invariant-loop-key l = by_keys l.key-items l.a l.b ≡ by_keys (drop l.key-index l.key-items) l.a l.b
