use Rattle.ext_ops.proofs.NameLemmas.{place_some, place_none}
use Rattle.ext_ops.proofs.names.Names.place_of.Goals as goal

pub returns-clause-some : goal.returns-clause-some
returns-clause-some g c =
    place_some c.args.name.now c.self.inside.table.entries c.args.self.now c.self.view_is c.get_index_of.result c.get_index_of.ensures.value

pub returns-clause-none : goal.returns-clause-none
returns-clause-none g c =
    place_none c.args.name.now c.self.inside.table.entries c.args.self.now c.self.view_is c.get_index_of.result c.get_index_of.ensures.found
