use Rattle.std.proofs.Common.{◌++◌, Some, None, false, nat_eq, sym, ap, ◌∙◌}
use Rattle.std.specs.Cmp.Lexicographic.{pointwise}
use Rattle.std.specs.Option.{option_map_or}
use Rattle.sha2.specs.Sha256.{sha256}
use Rattle.acl_core.specs.Known.{account_of}
use Rattle.acl_core.specs.Caller.{is_password}
use Rattle.acl_core.specs.Table.{accounts_in}
use Rattle.acl_core.proofs.ListLemmas.{password_looked}
use Rattle.acl_core.proofs.NameLemmas.{found_named}
use Rattle.acl_core.proofs.accounts.Accounts.has.Goals as goal

pub returns-in-Some-clause-same : goal.returns-in-Some-clause-same
returns-in-Some-clause-same c =
    let id = c.args.id.now in
    let password = c.args.password.now in
    let looked = password_looked id password c.self.inside.table.entries (Some c.in-Some.secret.now) c.in-Some.ensures.value in
    let digest = c.digest_of.ensures ∙ ap (λ salt. sha256 (salt ++ password)) c.get-in-Some.ensures.text in
    c.is_equal.ensures ∙ (ap (λ d. pointwise nat_eq d c.in-Some.secret.now.hash) digest
    ∙ (sym looked ∙ ap (λ k. option_map_or (λ a. is_password a password) (account_of id k.accounts) false) c.self.view_is))

pub returns-in-None-clause-same : goal.returns-in-None-clause-same
returns-in-None-clause-same c =
    let id = c.args.id.now in
    let password = c.args.password.now in
    let looked = password_looked id password c.self.inside.table.entries None c.in-None.ensures.value in
    sym looked ∙ ap (λ k. option_map_or (λ a. is_password a password) (account_of id k.accounts) false) c.self.view_is

pub returns-in-Some-clause-named : goal.returns-in-Some-clause-named
returns-in-Some-clause-named c =
    let id = c.args.id.now in
    let password = c.args.password.now in
    let looked = password_looked id password c.self.inside.table.entries (Some c.in-Some.secret.now) c.in-Some.ensures.value in
    let digest = c.digest_of.ensures ∙ ap (λ salt. sha256 (salt ++ password)) c.get-in-Some.ensures.text in
    let found = looked ∙ sym (c.is_equal.ensures ∙ ap (λ d. pointwise nat_eq d c.in-Some.secret.now.hash) digest) in
    λ so. found_named (λ a. is_password a password) id (accounts_in c.self.inside.table.entries) c.self.invariant (found ∙ so)
