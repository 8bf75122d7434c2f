use Rattle.std.proofs.Common.{inr, refl, sym, ap, ◌∙◌}
use Rattle.acl_core.specs.Granting.{as_admin}
use Rattle.acl_core.specs.Rights.{any_grants}
use Rattle.acl_core.proofs.GrantLemmas.{writes, writes_none, reads_by}
use Rattle.acl_core.proofs.rights.may.Goals as goal

pub returns-then-is_admin-clause-granted : goal.returns-then-is_admin-clause-granted
returns-then-is_admin-clause-granted g c = (λ _. as_admin c.args.right (sym c.is_admin.ensures ∙ c.if-is_admin.true), λ _. refl)

pub returns-then-grants_any-clause-granted : goal.returns-then-grants_any-clause-granted
returns-then-grants_any-clause-granted g c =
    let is_in = g.G.Groups.is_in c.args.groups.now in
    let writer = c.grants_any.ensures ∙ ap (λ own. any_grants is_in c.args.caller.now c.args.object.now own c.args.lists.now.write) c.writers.ensures in
    (λ _. writes is_in c.args.caller.now c.args.right c.args.object.now c.args.lists.now (inr (sym writer ∙ c.if-grants_any.true)), λ _. refl)

pub returns-in-Write-clause-granted : goal.returns-in-Write-clause-granted
returns-in-Write-clause-granted g c =
    let is_in = g.G.Groups.is_in c.args.groups.now in
    let writer = c.grants_any.ensures ∙ ap (λ own. any_grants is_in c.args.caller.now c.args.object.now own c.args.lists.now.write) c.writers.ensures in
    writes_none is_in c.args.caller.now c.args.right c.args.object.now c.args.lists.now c.in-Write.is (sym c.is_admin.ensures ∙ c.if-is_admin.false)
    (sym writer ∙ c.if-grants_any.false)

pub returns-in-Read-clause-granted : goal.returns-in-Read-clause-granted
returns-in-Read-clause-granted g c =
    let is_in = g.G.Groups.is_in c.args.groups.now in
    let writer = c.grants_any.ensures ∙ ap (λ own. any_grants is_in c.args.caller.now c.args.object.now own c.args.lists.now.write) c.writers.ensures in
    let reader = c.grants_any-in-Read.ensures ∙ ap (λ own. any_grants is_in c.args.caller.now c.args.object.now own c.args.lists.now.read) c.readers.ensures in
    reads_by is_in c.args.caller.now c.args.right c.args.object.now c.args.lists.now c.grants_any-in-Read.result c.in-Read.is (sym c.is_admin.ensures ∙ c.if-is_admin.false)
    (sym writer ∙ c.if-grants_any.false) reader
