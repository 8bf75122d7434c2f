-- Who calls: this project's own rule, over SHA-256 (FIPS 180-4).
use Rattle.std.specs.Prelude.{ℕ, List, ◌++◌, codes, nat_eq, Bool, false, if◌then◌else◌, Option, Some, None, option_and_then, ⊤}
use Rattle.std.specs.Cmp.Lexicographic.{pointwise}
use Rattle.sha2.specs.Sha256.{sha256}
use Rattle.doip_json.specs.Value.{Value}
use Rattle.acl_core.specs.declared.caller.Caller.{Caller}
use Rattle.acl_core.specs.declared.caller.Caller.TheVariants.{Anonymous, Known as Named}
use Rattle.acl_core.specs.Known.{Account, account_of, Known}
use Rattle.acl_core.specs.File.{string_at}
use Rattle.dobj_model.specs.Name.{IsName}

-- whether a password is that of an account: the digest of the salt's bytes followed by the password's is the hash
abbrev pub is_password : Account → List ℕ → Bool
is_password a password = pointwise nat_eq (sha256 (a.salt ++ password)) a.hash

-- whether an identifier is the admin's
abbrev pub is_admin : Option (List ℕ) → List ℕ → Bool
is_admin None id = false
is_admin (Some admin) id = pointwise nat_eq id admin

-- the caller of an account's name and a password, if it is the account's
abbrev pub named_caller : Known → Option (List ℕ) → Option (List ℕ) → Option Caller
named_caller known (Some id) (Some password) =
    option_and_then (λ a. if is_password a password then Some (Named id (is_admin known.admin id)) else None)
    (account_of id known.accounts)
named_caller known id password = None

-- The caller whom an authentication names: nobody where there is none, and else whom its strings `username` and
-- `password` name. Other keys are ignored.
abbrev pub caller_in : Known → Option Value → Option Caller
caller_in known None = Some Anonymous
caller_in known (Some v) = named_caller known (string_at (codes "username") v) (string_at (codes "password") v)

-- whether the identifier of the caller, if it is known, has 1 to 255 bytes
abbrev pub IsShort : Caller → Type 0
IsShort Anonymous = ⊤
IsShort (Named id admin) = IsName id
