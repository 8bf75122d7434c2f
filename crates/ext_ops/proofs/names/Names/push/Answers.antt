use Rattle.std.proofs.Common.{nat_eq, ◌∙◌, ap, sym}
use Rattle.std.specs.Cmp.Lexicographic.{pointwise}
use Rattle.std.specs.Map.{lookup}
use Rattle.std.specs.String.{string_eq, string_bytes}
use Rattle.indexmap.proofs.CallerLemmas.{insert_entry-new}
use Rattle.ext_ops.specs.Offered.{code_at}
use Rattle.ext_ops.proofs.NameLemmas.{code_named, name_added}
use Rattle.ext_ops.proofs.names.Names.push.Goals as goal

pub returns-clause-ok : goal.returns-clause-ok
returns-clause-ok g c =
    let table = c.self.inside.table in
    let key = c.into_string-name.result in
    let is = c.into_string-name.ensures ∙ c.into_text.ensures.text in
    let none = sym (code_named c.args.name table.entries) ∙ (ap (code_at c.args.name) c.self.view_is ∙ c.requires) in
    let new = ap (λ n. lookup (λ k. pointwise nat_eq n (string_bytes k)) table.entries) is ∙ none in
    name_added c.args.name table.entries c.args.self.now c.self.view_is c.insert.new.self.entries key c.args.code is
    (c.in_ok-insert.ensures.entries ∙ insert_entry-new string_eq table key c.args.code new)
