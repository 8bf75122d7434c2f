-- Accounts, as contracts see them.
use Rattle.std.specs.Prelude.{ℕ, List, nat_eq, Option, find}
use Rattle.std.specs.List.{AllByRecursion}
use Rattle.std.specs.Cmp.Lexicographic.{pointwise}
use Rattle.dobj_model.specs.Name.{IsName}

-- an identifier, a salt, and the SHA-256 of the salt's bytes followed by the password's
pub record Account : Type 0 where
  pub id : List ℕ
  pub salt : List ℕ
  pub hash : List ℕ

abbrev pub account : List ℕ → List ℕ → List ℕ → Account
account id salt hash = record { id = id; salt = salt; hash = hash }

-- the accounts in the order of their file, and the identifier of the admin, if there is one
pub record Known : Type 0 where
  pub accounts : List Account
  pub admin : Option (List ℕ)

abbrev pub known : List Account → Option (List ℕ) → Known
known accounts admin = record { accounts = accounts; admin = admin }

-- whether the identifier of each account has 1 to 255 bytes
abbrev pub AreNamed : List Account → Type 0
AreNamed = AllByRecursion (λ a. IsName a.id)

-- the account of an identifier
abbrev pub account_of : List ℕ → List Account → Option Account
account_of id = find (λ a. pointwise nat_eq id a.id)
