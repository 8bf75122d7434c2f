use Rattle.std.proofs.Common.{Some, None, ap, sym, ◌∙◌, subst}
use Rattle.acl_core.specs.File.{file_known}
use Rattle.repo_top.specs.AccountsFile.{WasRead}
use Rattle.repo_top.proofs.FileLemmas.{was_read}
use Rattle.repo_top.proofs.accounts.accounts_at.Goals as goal

pub returns-in-Ok-accounts_of-clause-accounts : goal.returns-in-Ok-accounts_of-clause-accounts
returns-in-Ok-accounts_of-clause-accounts g c =
    was_read c.args.path.now (g.H.Host.state c.args.host.now).holds c.in-Ok-file.bytes (Some c.in-Ok-accounts_of.accounts)
    (ap file_known (sym c.get.ensures) ∙ c.in-Ok-accounts_of.ensures.accounts) c.in-Ok-file.ensures.copy

pub returns-in-Err-Refused-clause-cause : goal.returns-in-Err-Refused-clause-cause
returns-in-Err-Refused-clause-cause g c =
    let read = was_read c.args.path.now (g.H.Host.state c.args.host.now).holds c.in-Ok-file.bytes None
    (ap file_known (sym c.get.ensures) ∙ c.in-Err-Refused.ensures.refused c.in-Err-Refused.field-0-is)
    c.in-Ok-file.ensures.copy in (
      ap Some (sym c.in-Ok.ensures),
      subst (λ name. WasRead name (g.H.Host.state c.args.host.now).holds None) (sym c.in-Ok.ensures) read,
    )
