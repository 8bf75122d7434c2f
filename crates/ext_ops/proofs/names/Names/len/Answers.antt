use Rattle.std.proofs.Common.{◌≢◌, subst}
use Rattle.std.specs.List.{AllPairs}
use Rattle.std.specs.Map.{keys_of}
use Rattle.ext_ops.proofs.NameLemmas.{names_differ}
use Rattle.ext_ops.proofs.names.Names.len.Goals as goal

pub returns-clause-differ : goal.returns-clause-differ
returns-clause-differ g c =
    subst (λ n. AllPairs (λ a b. a ≢ b) (keys_of n)) c.self.view_is (names_differ c.self.inside.table.entries c.len.ensures.unique)
