use Rattle.std.proofs.Common.{Some, ◌∙◌, ap, sym}
use Rattle.std.specs.List.{slice_get}
use Rattle.std.specs.Map.{keys_of}
use Rattle.ext_ops.proofs.NameLemmas.{name_named}
use Rattle.ext_ops.proofs.names.Names.name.Goals as goal

pub returns : goal.returns
returns g c =
    ap (λ m. slice_get (keys_of m) c.args.place) (sym c.self.view_is)
    ∙ (name_named c.self.inside.table.entries c.args.place (c.in-Some.name.now, c.in-Some.field-0-1.now) (sym c.in-Some.ensures.entry)
    ∙ ap Some (sym c.as_str.ensures.value))
