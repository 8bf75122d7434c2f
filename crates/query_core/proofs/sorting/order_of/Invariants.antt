use Rattle.std.proofs.Common.{◌-◌, length}
use Rattle.query_core.proofs.SortingLemmas.{SortedTo}
use Rattle.query_core.proofs.sorting.order_of.Given as goal

abbrev pub invariant-parts : goal.invariant-parts
invariant-parts l = SortedTo l.bytes l.at l.keys.items

abbrev pub decreases-parts : goal.decreases-parts
decreases-parts l = length l.bytes - l.at
