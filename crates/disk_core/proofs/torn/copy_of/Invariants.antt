use Rattle.std.specs.List.{All, Contains}
use Rattle.disk_core.proofs.torn.copy_of.Given as goal

abbrev pub invariant-rows : goal.invariant-rows
invariant-rows l = All (Contains l.before) l.images
