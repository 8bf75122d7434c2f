-- How the accounts are kept.
use Rattle.std.specs.Prelude.{List, map, String, string_bytes}
use Rattle.std.specs.HashMap.{HashMap}
use Rattle.std.specs.declared.alloc.Global.{Global}
use Rattle.acl_core.specs.declared.secret.Secret.{Secret}
use Rattle.acl_core.specs.Known.{Account, account}

-- the account of an entry
abbrev pub account_kept : String Global × Secret → Account
account_kept e = account (string_bytes e.0) e.1.salt e.1.hash

-- the accounts of a table's entries
abbrev pub accounts_in : List (String Global × Secret) → List Account
accounts_in = map account_kept

-- the accounts of a table
abbrev pub table_accounts : {S : Type 0} → HashMap (String Global) Secret S → List Account
table_accounts m = accounts_in m.entries
