use Rattle.std.proofs.Common.{Some, sym, ap, ◌∙◌, arith}
use Rattle.std.proofs.lemmas.Result.{IfOk-weaker}
use Rattle.doip_json.specs.Meaning.{value_of}
use Rattle.acl_core.specs.File.{listed}
use Rattle.acl_core.proofs.ListLemmas.{listed_short, listed_long}
use Rattle.acl_core.proofs.reading.listed_of.Goals as goal

pub returns-then-len-le-MOST_ACCOUNTS : goal.returns-then-len-le-MOST_ACCOUNTS
returns-then-len-le-MOST_ACCOUNTS c =
    let there = ap Some (sym (ap value_of c.in-Some-Items.field-0-is)) ∙ c.in-Some-Items.ensures in
    let same = listed_short c.in-Some-Items.items (omega arith) ∙ ap listed there in
    IfOk-weaker c.table_of.result _ _ (λ found so. so ∙ same) c.table_of.ensures

pub returns-else-len-le-MOST_ACCOUNTS : goal.returns-else-len-le-MOST_ACCOUNTS
returns-else-len-le-MOST_ACCOUNTS c =
    let there = ap Some (sym (ap value_of c.in-Some-Items.field-0-is)) ∙ c.in-Some-Items.ensures in
    listed_long c.in-Some-Items.items (omega arith) ∙ ap listed there
