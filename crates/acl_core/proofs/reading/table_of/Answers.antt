use Rattle.std.proofs.Common.{◌+◌, ◌++◌, not, option_map, option_and_then, sym, ap, ◌∙◌}
use Rattle.doip_json.specs.Meaning.{value_of}
use Rattle.acl_core.specs.File.{are_different, unless_repeated}
use Rattle.acl_core.specs.Table.{account_kept, table_accounts}
use Rattle.acl_core.proofs.ListLemmas.{rest_in, rest_none, rest_some, different_more, all_refused}
use Rattle.acl_core.proofs.reading.table_of.Goals as goal

pub returns-in_default : goal.returns-in_default
returns-in_default c =
    let l = c.loop-i in
    let none = sym (rw c.in_default.is at c.in_ok-id.ensures) in
    sym (ap (option_and_then unless_repeated) (l.invariant.read ∙ rest_none c.args.items.now l.i (value_of c.item.result.now) (table_accounts l.table) c.item.ensures none))

pub returns-then-not-branch : goal.returns-then-not-branch
returns-then-not-branch c =
    let l = c.loop-i in
    let a = account_kept (c.in-Some.id, c.in-Some.secret) in
    let some = sym (rw c.in-Some.is at c.in_ok-id.ensures) in
    let there = sym c.in_ok-add.ensures.fresh ∙ ap not c.if-not-branch.true in
    sym (ap (option_and_then unless_repeated) (l.invariant.read ∙ rest_some c.args.items.now l.i (value_of c.item.result.now) a (table_accounts l.table) c.item.ensures some)
    ∙ all_refused (table_accounts l.table) a (rest_in c.args.items.now (l.i + 1)) there)

pub loop-i-preserved : goal.loop-i-preserved
loop-i-preserved c =
    let l = c.loop-i in
    let vs = c.args.items.now in
    let a = account_kept (c.in-Some.id, c.in-Some.secret) in
    let some = sym (rw c.in-Some.is at c.in_ok-id.ensures) in
    let added = c.in_ok-add.ensures.added c.if-not-branch.false in
    let new = sym c.in_ok-add.ensures.fresh ∙ ap not c.if-not-branch.false in
    record {
      read = l.invariant.read ∙ (rest_some vs l.i (value_of c.item.result.now) a (table_accounts l.table) c.item.ensures some
          ∙ ap (λ done. option_map (λ more. done ++ more) (rest_in vs (l.i + 1))) (sym added));
      different = ap are_different added ∙ different_more (table_accounts l.table) a l.invariant.different new;
    }
