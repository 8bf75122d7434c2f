use Rattle.std.proofs.Common.{is_some, sym, ap, ◌∙◌}
use Rattle.std.proofs.lemmas.Bool.{false≢true}
use Rattle.std.specs.String.{string_eq}
use Rattle.indexmap.proofs.CallerLemmas.{insert_entry-new}
use Rattle.acl_core.specs.Table.{accounts_in}
use Rattle.acl_core.proofs.ListLemmas.{look_has, accounts_more}
use Rattle.acl_core.proofs.reading.add.Goals as goal
use Rattle.acl_core.proofs.reading.add.Goals.{in-Some, in-None}

pub returns-clause-fresh : goal.returns-clause-fresh
returns-clause-fresh c =
    let found = ap is_some c.in_ok-insert.ensures.old ∙ look_has _ c.args.table.now.entries in
    elim c.match-branch-2.branch [
      | in-Some w ↦ rw w.result-is (sym (ap is_some w.in-Some.is) ∙ found)
      | in-None w ↦ rw w.result-is (sym (ap is_some w.in-None.is) ∙ found)
    ]

pub returns-clause-added : goal.returns-clause-added
returns-clause-added c =
    elim c.match-branch-2.branch [
      | in-Some w ↦ rw w.result-is (λ no. absurd (false≢true no))
      | in-None w ↦ rw w.result-is (λ yes.
          ap accounts_in (c.in_ok-insert.ensures.entries
          ∙ insert_entry-new string_eq c.args.table.now c.args.id c.args.secret (sym c.in_ok-insert.ensures.old ∙ w.in-None.is))
          ∙ accounts_more c.args.table.now.entries (c.args.id, c.args.secret))
    ]
