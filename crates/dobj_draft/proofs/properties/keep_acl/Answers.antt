use Rattle.std.proofs.Common.{◌≡◌, Some, Ok, Err, codes, ap, sym, subst, ◌∙◌, option_map, arith}
use Rattle.doip_json.specs.Meaning.{value_of}
use Rattle.doip_json.specs.Value.{entries_from}
use Rattle.doip_json.specs.Look.{entry_of}
use Rattle.dobj_draft.specs.Draft.{without, with_acl, Reads}
use Rattle.dobj_draft.proofs.Drafts.{acl_kept, acl_fails, put_again}
use Rattle.dobj_draft.proofs.properties.keep_acl.Goals as goal

pub returns-in_ok-put-in-Some-Table : goal.returns-in_ok-put-in-Some-Table
returns-in_ok-put-in-Some-Table c =
    let es = without (codes "acl") c.args.attributes in
    let is =
    sym c.remove.ensures.value ∙ ap (option_map value_of) (c.in-Some-Table.is ∙ ap Some c.in-Some-Table.field-0-is) in
    let kept = c.in_ok-kept-in-Some-Table.kept in
    acl_kept (entry_of (codes "acl") (entries_from c.args.attributes)) c.in-Some-Table.lists kept es is
    c.in_ok-kept-in-Some-Table.ensures
    ∙ ap Ok (sym (put_again c.put.new.self c.remove.new.self es kept c.in_ok-of-in-Some-Table.field-0
    c.in_ok-put-in-Some-Table.ensures.ok c.remove.ensures.rest c.in_ok-of-in-Some-Table.ensures))

pub returns-in_err-kept-in-Some-Table : goal.returns-in_err-kept-in-Some-Table
returns-in_err-kept-in-Some-Table c =
    let es = without (codes "acl") c.args.attributes in
    let o = entry_of (codes "acl") (entries_from c.args.attributes) in
    let is =
    sym c.remove.ensures.value ∙ ap (option_map value_of) (c.in-Some-Table.is ∙ ap Some c.in-Some-Table.field-0-is) in
    let fault = c.in_err-kept-in-Some-Table.field-0.0 in
    let failed : c.from_residual.result ≡ Err fault = grind arith in
    subst (λ r. Reads (λ m. m) r (with_acl o es)) (sym failed)
    (acl_fails o c.in-Some-Table.lists es fault is c.in_err-kept-in-Some-Table.ensures)
