use Rattle.std.proofs.Common.{Some, None, if◌then◌else◌, sym, ap, ◌∙◌}
use Rattle.doip_json.specs.Value.{text}
use Rattle.doip_json.specs.Meaning.{value_of}
use Rattle.acl_core.specs.File.{admin_among}
use Rattle.acl_core.specs.Table.{table_accounts}
use Rattle.acl_core.proofs.ListLemmas.{admin_looked}
use Rattle.acl_core.proofs.reading.admin_of.Goals as goal

pub returns-in_ok-of-in-Some-Text : goal.returns-in_ok-of-in-Some-Text
returns-in_ok-of-in-Some-Text c =
    let id = c.get-in-Some-Text.result.now in
    let there = ap Some (sym (ap value_of c.in-Some-Text.field-0-is)) ∙ c.in-Some-Text.ensures in
    let looked = admin_looked id c.args.table.now.entries c.contains_key.result c.contains_key.ensures in
    let found = looked ∙ ap (λ b. if b then Some (Some id) else None) c.if-contains_key.true in
    ap (λ s. Some (Some s)) (c.in_ok-of-in-Some-Text.ensures ∙ c.get-then-contains_key.ensures.text)
    ∙ (ap (λ s. Some (Some s)) (sym c.get-in-Some-Text.ensures.text)
    ∙ (sym found ∙ ap (admin_among (table_accounts c.args.table.now)) (ap (λ s. Some (text s)) c.get-in-Some-Text.ensures.text ∙ there)))

pub returns-else-contains_key : goal.returns-else-contains_key
returns-else-contains_key c =
    let id = c.get-in-Some-Text.result.now in
    let there = ap Some (sym (ap value_of c.in-Some-Text.field-0-is)) ∙ c.in-Some-Text.ensures in
    let looked = admin_looked id c.args.table.now.entries c.contains_key.result c.contains_key.ensures in
    let none = looked ∙ ap (λ b. if b then Some (Some id) else None) c.if-contains_key.false in
    sym none ∙ ap (admin_among (table_accounts c.args.table.now)) (ap (λ s. Some (text s)) c.get-in-Some-Text.ensures.text ∙ there)
