use Rattle.std.proofs.Common.{sym, ◌∙◌}
use Rattle.acl_core.specs.Granting.{creates_as_admin}
use Rattle.acl_core.proofs.GrantLemmas.{creates_by}
use Rattle.acl_core.proofs.rights.may_create.Goals as goal

pub returns-then-is_admin-clause-granted : goal.returns-then-is_admin-clause-granted
returns-then-is_admin-clause-granted g c = (λ _. creates_as_admin (sym c.is_admin.ensures ∙ c.if-is_admin.true), λ _. c.if-is_admin.true)

pub returns-else-is_admin-clause-granted : goal.returns-else-is_admin-clause-granted
returns-else-is_admin-clause-granted g c =
    creates_by (g.G.Groups.is_in c.args.groups.now) c.args.caller.now c.args.lists.now c.names_grant.result (sym c.is_admin.ensures ∙ c.if-is_admin.false) c.names_grant.ensures
