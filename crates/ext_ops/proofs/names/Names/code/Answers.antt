use Rattle.std.proofs.Common.{◌∙◌, ap, sym}
use Rattle.ext_ops.specs.Offered.{code_at}
use Rattle.ext_ops.proofs.NameLemmas.{code_named}
use Rattle.ext_ops.proofs.names.Names.code.Goals as goal

pub returns : goal.returns
returns g c =
    c.get.ensures.value ∙ (sym (code_named c.args.name.now c.self.inside.table.entries) ∙ ap (code_at c.args.name.now) c.self.view_is)
